-- Two examples: a vertex of a graph that is merged into another, worked out from the classes of the touched names; and two vertices
-- with different labels, which cannot be merged.
use Rattle.std.proofs.Common.{◌≡◌, ◌∙◌, ◌<◌, ◌+◌, ◌==◌, ℕ, zero, suc, pos, cond, List, [], ◌∷◌, Some, None, refl, sym, ap, arith}
use Rattle.rw_schema.specs.declared.atom.Atom.TheVariants.{Int}
use Rattle.rw_schema.specs.declared.atom.Kind.TheVariants as kinds
use Rattle.rw_schema.specs.declared.signature.ArrowEnds.{ArrowEnds}
use Rattle.rw_schema.specs.declared.signature.AttrEnds.{AttrEnds}
use Rattle.rw_schema.specs.Signature.{Signature}
use Rattle.rw_spec.specs.Cocone.{Frame, IsCocone}
use Rattle.rw_spec.specs.Instance.{Instance, instance_of}
use Rattle.rw_spec.specs.Natural.{Map}
use Rattle.rw_classes.specs.Places.{cell_of}
use Rattle.rw_glued.specs.Clash.{IsClashOf, part_of_place}
use Rattle.rw_glued.specs.Result.{Classing}
use Rattle.rw_local.specs.inner.Glued.{local_change}
use Rattle.rw_local.specs.inner.Local.{placed, renamed, under_names}
use Rattle.rw_local.proofs.Verdict.{firsts_at, numbers_at}

-- edges, object 1, lead from vertices to vertices, object 0
abbrev edge_end : ArrowEnds
edge_end = record { source = record { 0 = 1 }; target = record { 0 = 0 } }

-- a label is an integer on a vertex
abbrev label : AttrEnds
label = record { object = record { 0 = 0 }; kind = kinds.Int }

-- graphs whose vertices have an integer for a label
abbrev graphs : Signature
graphs = record { objects = 2; arrows = edge_end ∷ edge_end ∷ []; attributes = label ∷ []; equations = [] }

-- three vertices, the last one with label 5, and edges from 0 to 1 and from 1 to 2
abbrev path : Instance
path = instance_of graphs (record {
  names = (0 ∷ 1 ∷ 2 ∷ []) ∷ (0 ∷ 1 ∷ []) ∷ [];
  arrows = (0 ∷ 1 ∷ []) ∷ (1 ∷ 2 ∷ []) ∷ [];
  cells = (None ∷ None ∷ Some (Int (pos 5)) ∷ []) ∷ [];
  next = 3 ∷ 2 ∷ [];
})

-- two vertices without an edge
abbrev two_vertices : Instance
two_vertices = instance_of graphs (record { names = (0 ∷ 1 ∷ []) ∷ [] ∷ []; arrows = [] ∷ [] ∷ []; cells = (None ∷ None ∷ []) ∷ []; next = 2 ∷ 0 ∷ [] })

-- a vertex, and an edge from another one, which has label 7, to it
abbrev edge_in : Instance
edge_in = instance_of graphs (record {
  names = (0 ∷ 1 ∷ []) ∷ (0 ∷ []) ∷ [];
  arrows = (1 ∷ []) ∷ (0 ∷ []) ∷ [];
  cells = (None ∷ Some (Int (pos 7)) ∷ []) ∷ [];
  next = 2 ∷ 1 ∷ [];
})

-- the kept vertices are vertices 1 and 2 of the path, and both become vertex 0 of the right side
abbrev merge : Frame
merge = record { apex = two_vertices; left = path; right = edge_in; to_left = λ object z. z + 1; to_right = λ object z. 0 }

-- the next names of the path
abbrev next : List ℕ
next = 3 ∷ 2 ∷ []

-- vertices 1 and 2 are touched
touched_are : under_names merge 0 ≡ 1 ∷ 2 ∷ []
touched_are = refl

-- no edge is touched
no_edge_touched : under_names merge 1 ≡ []
no_edge_touched = refl

-- of the touched vertices and the right ones the first three are one class
classes_are : numbers_at merge (under_names merge) 0 ≡ 0 ∷ 0 ∷ 0 ∷ 1 ∷ []
classes_are = refl

-- they begin at the first touched vertex and at the new one
firsts_are : firsts_at merge (under_names merge) 0 ≡ 0 ∷ 3 ∷ []
firsts_are = refl

-- the classes
abbrev numbers : Classing
numbers object = cond (object == 0) (0 ∷ 0 ∷ 0 ∷ 1 ∷ []) (0 ∷ [])

-- where they begin
abbrev firsts : Classing
firsts object = cond (object == 0) (0 ∷ 3 ∷ []) (0 ∷ [])

-- vertex 2 takes the name 1
merged_name : renamed merge next (under_names merge) numbers firsts 0 2 ≡ 1
merged_name = refl

-- vertex 0 stays
other_name : renamed merge next (under_names merge) numbers firsts 0 0 ≡ 0
other_name = refl

-- the new vertex takes the next name
new_name : placed merge next (under_names merge) numbers firsts 0 1 ≡ 3
new_name = refl

-- vertex 2 goes; vertex 3 and edge 2 from it to vertex 1 come; edge 1 is led to vertex 1, which takes label 5
change_is : local_change graphs path merge (under_names merge) numbers firsts (λ object. []) (λ object. []) next ≡ record {
  removed = (2 ∷ []) ∷ [] ∷ [];
  added = record {
    names = (3 ∷ []) ∷ (2 ∷ []) ∷ [];
    arrows = (3 ∷ []) ∷ (1 ∷ []) ∷ [];
    cells = (Some (Int (pos 7)) ∷ []) ∷ [];
    next = 4 ∷ 3 ∷ [];
  };
  rows = [] ∷ ((1, 1) ∷ []) ∷ [];
  cells = ((1, Some (Int (pos 5))) ∷ []) ∷ [];
}
change_is = refl

-- the path with label 4 on vertex 1
abbrev labelled : Instance
labelled = instance_of graphs (record {
  names = (0 ∷ 1 ∷ 2 ∷ []) ∷ (0 ∷ 1 ∷ []) ∷ [];
  arrows = (0 ∷ 1 ∷ []) ∷ (1 ∷ 2 ∷ []) ∷ [];
  cells = (None ∷ Some (Int (pos 4)) ∷ Some (Int (pos 5)) ∷ []) ∷ [];
  next = 3 ∷ 2 ∷ [];
})

-- vertices 1 and 2 are to be merged
abbrev clashing : Frame
clashing = record { apex = two_vertices; left = labelled; right = edge_in; to_left = λ object z. z + 1; to_right = λ object z. 0 }

-- labels 4 and 5 clash on vertex 1
clash_is : IsClashOf clashing (renamed clashing next (under_names clashing) numbers firsts) (placed clashing next (under_names clashing) numbers firsts)
    0 0 1 (Int (pos 4)) (Int (pos 5))
clash_is = record {
  first = 1;
  second = 2;
  order = omega arith;
  within = omega arith;
  first_part = refl;
  second_part = refl;
  first_atom = refl;
  second_atom = refl;
  differ = λ same. cc;
  none_before = λ e before goes. before_first e before goes;
  same_between = λ e atom after before goes has. absurd (omega (arith, after, before));
}
  where
    before_first : (e : ℕ) → e < 1 → part_of_place clashing (renamed clashing next (under_names clashing) numbers firsts) (placed clashing next (under_names clashing) numbers firsts) 0 e ≡ 1
        → cell_of clashing 0 0 e ≡ None
    before_first zero before goes = refl
    before_first (suc e) before goes = absurd (omega arith)

-- no cocone has both labels on one vertex
no_cocone : (T : Instance) (d s : Map) → IsCocone graphs clashing T d s → ⊥
no_cocone T d s cocone =
    let one : T.cell 0 (d 0 1) ≡ Some (Int (pos 4)) = cocone.from_left.keeps 0 label 1 (Int (pos 4)) refl (1, omega arith, refl) refl in
    let other : T.cell 0 (d 0 2) ≡ Some (Int (pos 5)) = cocone.from_left.keeps 0 label 2 (Int (pos 5)) refl (2, omega arith, refl) refl in
    let same : d 0 1 ≡ d 0 2 = cocone.agrees 0 0 (omega arith) (0, omega arith, refl) ∙ sym (cocone.agrees 0 1 (omega arith) (1, omega arith, refl)) in
    let both : Some (Int (pos 4)) ≡ Some (Int (pos 5)) = sym one ∙ ap (T.cell 0) same ∙ other in
    cc
