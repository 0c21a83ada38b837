-- Vertices with a truth value that are glued, and some that clash.
use Rattle.std.proofs.Common.{◌≡◌, ℕ, List, true, false, [], ◌∷◌, Some, None, refl, arith}
use Rattle.rw_schema.specs.declared.atom.Atom.TheVariants as atoms
use Rattle.rw_schema.specs.declared.atom.Kind.TheVariants as kinds
use Rattle.rw_schema.specs.RowLists.{list_at}
use Rattle.rw_schema.specs.Signature.{Signature}
use Rattle.rw_spec.specs.Cocone.{Frame}
use Rattle.rw_spec.specs.Homomorphism.{map_of}
use Rattle.rw_spec.specs.Instance.{Instance, instance_of, lists_of}
use Rattle.rw_glued.specs.Result.{HaveOneAtom, glued_of, left_name, next_after, right_name}

-- vertices with a truth value
abbrev marked : Signature
marked = record { objects = 1; arrows = []; attributes = record { object = record { 0 = 0 }; kind = kinds.Bool } ∷ []; equations = [] }

-- two blank vertices
abbrev blanks : Instance
blanks = instance_of marked (record { names = (0 ∷ 1 ∷ []) ∷ []; arrows = []; cells = (None ∷ None ∷ []) ∷ []; next = 2 ∷ [] })

-- three vertices 0, 4 and 5: blank, true and false
abbrev three : Instance
three = instance_of marked (record { names = (0 ∷ 4 ∷ 5 ∷ []) ∷ []; arrows = []; cells = (None ∷ Some (atoms.Bool true) ∷ Some (atoms.Bool false) ∷ []) ∷ []; next = 6 ∷ [] })

-- one blank vertex, and one that is false
abbrev merged_and_new : Instance
merged_and_new = instance_of marked (record { names = (0 ∷ 1 ∷ []) ∷ []; arrows = []; cells = (None ∷ Some (atoms.Bool false) ∷ []) ∷ []; next = 2 ∷ [] })

-- vertices 0 and 4 are to be one, and the second vertex of the right side is new
abbrev merges : Frame
merges = record {
  apex = blanks;
  left = three;
  right = merged_and_new;
  to_left = map_of blanks ((0 ∷ 4 ∷ []) ∷ []);
  to_right = map_of blanks ((0 ∷ 0 ∷ []) ∷ []);
}

-- of the three left vertices and then the two right ones, the class
abbrev numbers : List (List ℕ)
numbers = (0 ∷ 0 ∷ 1 ∷ 0 ∷ 2 ∷ []) ∷ []

-- of each class the first
abbrev firsts : List (List ℕ)
firsts = (0 ∷ 2 ∷ 4 ∷ []) ∷ []

-- the vertex that was merged is called 0 and is true, 5 stays as it was, and the new vertex is called 6, the next name
glued_vertices : lists_of marked (glued_of marked merges (6 ∷ []) (list_at numbers) (list_at firsts)) (next_after marked merges (6 ∷ []))
    ≡ record {
      names = (0 ∷ 5 ∷ 6 ∷ []) ∷ [];
      arrows = [];
      cells = (Some (atoms.Bool true) ∷ Some (atoms.Bool false) ∷ Some (atoms.Bool false) ∷ []) ∷ [];
      next = 7 ∷ [];
    }
glued_vertices = refl

-- vertex 4 is now called 0
merged_name : left_name merges (6 ∷ []) (list_at numbers) (list_at firsts) 0 4 ≡ 0
merged_name = refl

-- and the second vertex of the right side 6
new_name : right_name merges (6 ∷ []) (list_at numbers) (list_at firsts) 0 1 ≡ 6
new_name = refl

-- the same, where vertices 4 and 5 are to be one, though one is true and the other false
abbrev clashing : Frame
clashing = record {
  apex = blanks;
  left = three;
  right = merged_and_new;
  to_left = map_of blanks ((4 ∷ 5 ∷ []) ∷ []);
  to_right = map_of blanks ((0 ∷ 0 ∷ []) ∷ []);
}

-- their atoms are not one
two_atoms : HaveOneAtom marked clashing (list_at ((0 ∷ 1 ∷ 1 ∷ 1 ∷ 2 ∷ []) ∷ [])) → ⊥
two_atoms one =
    let same : atoms.Bool true ≡ atoms.Bool false =
    one 0 (record { object = record { 0 = 0 }; kind = kinds.Bool }) 1 2 (atoms.Bool true) (atoms.Bool false) refl (omega arith) (omega arith) refl refl refl in
    cc
