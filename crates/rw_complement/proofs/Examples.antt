-- Small redexes that the definitions decide as the field does.
use Rattle.std.proofs.Common.{◌≡◌, true, false, [], ◌∷◌, Some, None, refl, inl, inr, arith}
use Rattle.rw_schema.specs.declared.atom.Atom.TheVariants as atoms
use Rattle.rw_schema.specs.declared.atom.Kind.TheVariants as kinds
use Rattle.rw_schema.specs.declared.signature.ArrowEnds.{ArrowEnds}
use Rattle.rw_schema.specs.Signature.{Signature}
use Rattle.rw_spec.specs.Homomorphism.{map_of}
use Rattle.rw_spec.specs.Instance.{Instance, instance_of}
use Rattle.rw_spec.specs.Redex.{Redex}
use Rattle.rw_spec.proofs.Sequences.{contains_here, contains_later, contains_none}
use Rattle.rw_complement.specs.Context.{context_of}
use Rattle.rw_complement.specs.Redex.{CanBeGlued, IsKept}
use Rattle.rw_complement.proofs.Parts.{kept_test, removed_from}

-- source and target of the edges, object 1, are vertices, object 0
abbrev edge_end : ArrowEnds
edge_end = record { source = record { 0 = 1 }; target = record { 0 = 0 } }

-- graphs
abbrev graphs : Signature
graphs = record { objects = 2; arrows = edge_end ∷ edge_end ∷ []; attributes = []; equations = [] }

-- the graph without parts
abbrev nothing : Instance
nothing = instance_of graphs (record { names = [] ∷ [] ∷ []; arrows = [] ∷ [] ∷ []; cells = []; next = 0 ∷ 0 ∷ [] })

-- one vertex
abbrev vertex : Instance
vertex = instance_of graphs (record { names = (0 ∷ []) ∷ [] ∷ []; arrows = [] ∷ [] ∷ []; cells = []; next = 1 ∷ 0 ∷ [] })

-- two vertices
abbrev vertices : Instance
vertices = instance_of graphs (record { names = (0 ∷ 1 ∷ []) ∷ [] ∷ []; arrows = [] ∷ [] ∷ []; cells = []; next = 2 ∷ 0 ∷ [] })

-- an edge between two vertices
abbrev edge : Instance
edge = instance_of graphs (record { names = (0 ∷ 1 ∷ []) ∷ (0 ∷ []) ∷ []; arrows = (0 ∷ []) ∷ (1 ∷ []) ∷ []; cells = []; next = 2 ∷ 1 ∷ [] })

-- a vertex is to go from which an edge leads
abbrev vertex_goes : Redex
vertex_goes = record { keep = nothing; left = vertex; host = edge; l = map_of nothing ([] ∷ [] ∷ []); m = map_of vertex ((0 ∷ []) ∷ [] ∷ []) }

-- the edge would dangle
dangles : CanBeGlued graphs vertex_goes → ⊥
dangles condition =
    let matched = condition.dangling 0 edge_end 0 refl (contains_here 0 []) (removed_from vertex_goes 0 0 refl) in contains_none matched.0 matched.1

-- an edge is to go, and its vertices stay
abbrev edge_goes : Redex
edge_goes = record {
  keep = vertices;
  left = edge;
  host = edge;
  l = map_of vertices ((0 ∷ 1 ∷ []) ∷ [] ∷ []);
  m = map_of edge ((0 ∷ 1 ∷ []) ∷ (0 ∷ []) ∷ []);
}

-- the context has both vertices
vertices_stay : (context_of graphs edge_goes).names 0 ≡ 0 ∷ 1 ∷ []
vertices_stay = refl

-- no edge is left
no_edge_stays : (context_of graphs edge_goes).names 1 ≡ []
no_edge_stays = refl

-- two vertices are matched by one, and one of them is to go
abbrev one_of_two_goes : Redex
one_of_two_goes = record {
  keep = vertex;
  left = vertices;
  host = edge;
  l = map_of vertex ((0 ∷ []) ∷ [] ∷ []);
  m = map_of vertices ((0 ∷ 0 ∷ []) ∷ [] ∷ []);
}

-- the second vertex does not stay
second_goes : IsKept one_of_two_goes 0 1 → ⊥
second_goes kept = let no : false ≡ true = kept_test one_of_two_goes 0 1 kept in cc

-- a vertex can't both stay and go
identified : CanBeGlued graphs one_of_two_goes → ⊥
identified condition =
    elim (condition.identification 0 0 1 (omega arith) (contains_here 0 (1 ∷ [])) (contains_later 0 (1 ∷ []) 1 (contains_here 1 [])) refl) [
      | inl same ↦ omega (arith, same)
      | inr both ↦ second_goes both.1
    ]

-- vertices with a truth value
abbrev marked : Signature
marked = record { objects = 1; arrows = []; attributes = record { object = record { 0 = 0 }; kind = kinds.Bool } ∷ []; equations = [] }

-- two vertices, both true
abbrev both_true : Instance
both_true = instance_of marked (record { names = (0 ∷ 1 ∷ []) ∷ []; arrows = []; cells = (Some (atoms.Bool true) ∷ Some (atoms.Bool true) ∷ []) ∷ []; next = 2 ∷ [] })

-- one true vertex
abbrev one_true : Instance
one_true = instance_of marked (record { names = (0 ∷ []) ∷ []; arrows = []; cells = (Some (atoms.Bool true) ∷ []) ∷ []; next = 1 ∷ [] })

-- one blank vertex
abbrev one_blank : Instance
one_blank = instance_of marked (record { names = (0 ∷ []) ∷ []; arrows = []; cells = (None ∷ []) ∷ []; next = 1 ∷ [] })

-- two vertices, the first of them blank
abbrev first_blank : Instance
first_blank = instance_of marked (record { names = (0 ∷ 1 ∷ []) ∷ []; arrows = []; cells = (None ∷ Some (atoms.Bool true) ∷ []) ∷ []; next = 2 ∷ [] })

-- vertex 1 stays, and its cell is to be written anew
abbrev cell_goes : Redex
cell_goes = record { keep = one_blank; left = one_true; host = both_true; l = map_of one_blank ((0 ∷ []) ∷ []); m = map_of one_true ((1 ∷ []) ∷ []) }

-- its cell is blank in the context
cell_is_blank : (context_of marked cell_goes).cell 0 1 ≡ None
cell_is_blank = refl

-- and that of vertex 0 is not
other_cell_stays : (context_of marked cell_goes).cell 0 0 ≡ Some (atoms.Bool true)
other_cell_stays = refl

-- vertex 1 is matched twice, and the cell is to be written anew for one of both
abbrev half_goes : Redex
half_goes = record {
  keep = first_blank;
  left = both_true;
  host = both_true;
  l = map_of first_blank ((0 ∷ 1 ∷ []) ∷ []);
  m = map_of both_true ((1 ∷ 1 ∷ []) ∷ []);
}

-- for the other it stays
half_stays : (context_of marked half_goes).cell 0 1 ≡ Some (atoms.Bool true)
half_stays = refl
