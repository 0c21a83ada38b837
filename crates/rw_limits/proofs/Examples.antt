-- Small pullbacks that the definitions decide as the field does.
use Rattle.std.proofs.Common.{◌≡◌, true, false, [], ◌∷◌, Some, None, refl}
use Rattle.rw_schema.specs.declared.atom.Atom.TheVariants as atoms
use Rattle.rw_schema.specs.declared.atom.Kind.TheVariants as kinds
use Rattle.rw_schema.specs.Signature.{Signature}
use Rattle.rw_spec.specs.Homomorphism.{map_of}
use Rattle.rw_spec.specs.Instance.{Instance, instance_of}
use Rattle.rw_spec.specs.Pullback.{Cospan}
use Rattle.rw_limits.specs.Pullbacks.{pullback_lists, left_parts, right_parts, too_large}

-- vertices and edges
abbrev graphs : Signature
graphs = record {
  objects = 2;
  arrows = record { source = record { 0 = 1 }; target = record { 0 = 0 } } ∷ record { source = record { 0 = 1 }; target = record { 0 = 0 } } ∷ [];
  attributes = [];
  equations = [];
}

-- an edge between two vertices
abbrev edge : Instance
edge = instance_of graphs (record { names = (0 ∷ 1 ∷ []) ∷ (0 ∷ []) ∷ []; arrows = (0 ∷ []) ∷ (1 ∷ []) ∷ []; cells = []; next = 2 ∷ 1 ∷ [] })

-- a vertex with a loop
abbrev loop : Instance
loop = instance_of graphs (record { names = (0 ∷ []) ∷ (0 ∷ []) ∷ []; arrows = (0 ∷ []) ∷ (0 ∷ []) ∷ []; cells = []; next = 1 ∷ 1 ∷ [] })

-- two edges over a loop
abbrev edges : Cospan
edges = record {
  left = edge;
  right = edge;
  base = loop;
  left_map = map_of edge ((0 ∷ 0 ∷ []) ∷ (0 ∷ []) ∷ []);
  right_map = map_of edge ((0 ∷ 0 ∷ []) ∷ (0 ∷ []) ∷ []);
}

-- the pullback of two edges over a loop has four vertices, and an edge from the first to the last
square_of_edges : pullback_lists graphs edges
    ≡ record { names = (0 ∷ 1 ∷ 2 ∷ 3 ∷ []) ∷ (0 ∷ []) ∷ []; arrows = (0 ∷ []) ∷ (3 ∷ []) ∷ []; cells = []; next = 4 ∷ 1 ∷ [] }
square_of_edges = refl

-- its parts come from these
square_left : left_parts graphs edges ≡ (0 ∷ 0 ∷ 1 ∷ 1 ∷ []) ∷ (0 ∷ []) ∷ []
square_left = refl

square_right : right_parts graphs edges ≡ (0 ∷ 1 ∷ 0 ∷ 1 ∷ []) ∷ (0 ∷ []) ∷ []
square_right = refl

square_is_small : too_large graphs edges ≡ None
square_is_small = refl

-- vertices with a truth value
abbrev marked : Signature
marked = record { objects = 1; arrows = []; attributes = record { object = record { 0 = 0 }; kind = kinds.Bool } ∷ []; equations = [] }

-- three vertices with the names 1, 4 and 5 and the cells true, false and blank
abbrev three : Instance
three = instance_of marked (record { names = (1 ∷ 4 ∷ 5 ∷ []) ∷ []; arrows = []; cells = (Some (atoms.Bool true) ∷ Some (atoms.Bool false) ∷ None ∷ []) ∷ []; next = 6 ∷ [] })

-- one blank vertex
abbrev blank : Instance
blank = instance_of marked (record { names = (2 ∷ []) ∷ []; arrows = []; cells = (None ∷ []) ∷ []; next = 3 ∷ [] })

-- three vertices twice over one
abbrev vertices : Cospan
vertices = record { left = three; right = three; base = blank; left_map = map_of three ((2 ∷ 2 ∷ 2 ∷ []) ∷ []); right_map = map_of three ((2 ∷ 2 ∷ 2 ∷ []) ∷ []) }

-- a pair has an atom where both parts have it
atoms_in_common : pullback_lists marked vertices
    ≡ record {
      names = (0 ∷ 1 ∷ 2 ∷ 3 ∷ 4 ∷ 5 ∷ 6 ∷ 7 ∷ 8 ∷ []) ∷ [];
      arrows = [];
      cells = (Some (atoms.Bool true) ∷ None ∷ None ∷ None ∷ Some (atoms.Bool false) ∷ None ∷ None ∷ None ∷ None ∷ []) ∷ [];
      next = 9 ∷ [];
    }
atoms_in_common = refl
