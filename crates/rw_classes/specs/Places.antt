-- The places of the parts of both sides of a frame at an object: the left parts are counted first, and then the right ones.
use Rattle.std.specs.Prelude.{◌==◌, ◌+◌, ◌-◌, ℕ, nat_lt, cond, List, map, length, Option, slice_index}
use Rattle.std.specs.List.{position_or_len}
use Rattle.rw_schema.specs.declared.atom.Atom.{Atom}
use Rattle.rw_spec.specs.Cocone.{Frame}

-- where a name stands among names
abbrev pub spot : List ℕ → ℕ → ℕ
spot names x = position_or_len (λ name. name == x) names

-- the number of parts of an object on both sides
abbrev pub count_at : Frame → ℕ → ℕ
count_at F object = length (F.left.names object) + length (F.right.names object)

-- what is to be joined at an object: of each part of the apex the places of its two images, where the parts of the left
-- side are counted first, and then those of the right side
abbrev pub joined_at : Frame → ℕ → List (ℕ × ℕ)
joined_at F object =
    map (λ z. (spot (F.left.names object) (F.to_left object z), length (F.left.names object) + spot (F.right.names object) (F.to_right object z))) (F.apex.names object)

-- what d gives of a left part, or s of a right part, where the left parts are counted first
abbrev pub either : {A : Type 0} → List ℕ → List ℕ → (ℕ → A) → (ℕ → A) → ℕ → A
either left right d s e = cond (nat_lt e (length left)) (d (slice_index left e)) (s (slice_index right (e - length left)))

-- the cell of a part of either side
abbrev pub cell_of : Frame → ℕ → ℕ → ℕ → Option Atom
cell_of F object c e = either (F.left.names object) (F.right.names object) (F.left.cell c) (F.right.cell c) e
