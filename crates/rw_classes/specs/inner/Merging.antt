-- The atoms that the parts of classes have in one attribute. A part is given by its place, and the left parts come first: what proofs and functions inside the crate speak of.
use Rattle.std.specs.Prelude.{◌≡◌, ◌≢◌, ◌<◌, ◌≤◌, ℕ, Bool, true, nat_lt, List, Option, Some, None, slice_index, slice_index_or}
use Rattle.rw_schema.specs.declared.atom.Atom.{Atom}
use Rattle.rw_classes.specs.declared.merge.Difference.{Difference}

-- both cells have an atom, and these differ
abbrev pub AreDifferent : Option Atom → Option Atom → Type 0
AreDifferent (Some a) (Some b) = a ≢ b
AreDifferent (Some a) None = ⊥
AreDifferent None (Some b) = ⊥
AreDifferent None None = ⊥

-- the part at the place has another atom than the first part of its class that has one
pub record DiffersFrom (cells : ℕ → Option Atom) (numbers : List ℕ) (firsts : List (Option ℕ)) (place first : ℕ) : Type 0 where
  pub is_first : slice_index_or firsts (slice_index numbers place) None ≡ Some first
  pub different : AreDifferent (cells first) (cells place)

-- among the parts below n it is one of the least class that differs from the first of its class, and the first such part
pub record IsLeastDifference (cells : ℕ → Option Atom) (numbers : List ℕ) (firsts : List (Option ℕ)) (n : ℕ) (difference : Difference) : Type 0 where
  pub within : difference.second < n
  pub class : slice_index numbers difference.second ≡ difference.class
  pub differs : DiffersFrom cells numbers firsts difference.second difference.first
  pub least_class : (e first : ℕ) → e < n → DiffersFrom cells numbers firsts e first → difference.class ≤ slice_index numbers e
  pub least_place : (e first : ℕ) → e < n → DiffersFrom cells numbers firsts e first → slice_index numbers e ≡ difference.class → difference.second ≤ e

-- the least difference, or none where there is none
abbrev pub LeastDifference : (ℕ → Option Atom) → List ℕ → List (Option ℕ) → ℕ → Option Difference → Type 0
LeastDifference cells numbers firsts n None = (e first : ℕ) → e < n → DiffersFrom cells numbers firsts e first → ⊥
LeastDifference cells numbers firsts n (Some difference) = IsLeastDifference cells numbers firsts n difference

-- a difference in the class comes before the one that was found
abbrev pub comes_before : ℕ → Option Difference → Bool
comes_before class None = true
comes_before class (Some difference) = nat_lt class difference.class
