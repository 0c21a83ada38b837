-- The cells of the classes of all objects, and the first clash of those.
use Rattle.std.specs.Prelude.{◌≡◌, ◌<◌, ◌+◌, ◌^◌, ◌++◌, ℕ, List, All, length, Option, Some, None, slice_get}
use Rattle.rw_schema.specs.declared.atom.Atom.{Atom}
use Rattle.rw_schema.specs.declared.signature.AttrEnds.{AttrEnds}
use Rattle.rw_schema.specs.RowLists.{RowLists, list_at}
use Rattle.rw_classes.specs.FirstClash.{IsEarlierPlace}
use Rattle.rw_classes.specs.Merging.{Merges, cell_at}
use Rattle.rw_classes.specs.declared.clashes.ClashAt.{ClashAt}
use Rattle.rw_classes.specs.declared.merge.Difference.{Difference}
use Rattle.rw_classes.specs.declared.merge.Merged.{Merged}
use Rattle.rw_classes.specs.declared.merge.Merged.TheVariants.{Differ}

-- the cells of an attribute on both sides, left ones first
abbrev pub both_cells : RowLists → RowLists → ℕ → List (Option Atom)
both_cells left right c = list_at left.cells c ++ list_at right.cells c

-- the parts of the attribute's object have a cell and a class each
pub record CanMerge (left right : RowLists) (numbers firsts : List (List ℕ)) (c : ℕ) (ends : AttrEnds) : Type 0 where
  pub left_cells : c < length left.cells
  pub right_cells : c < length right.cells
  pub numbered : ends.object.0 < length numbers
  pub begun : ends.object.0 < length firsts
  pub each : length (list_at numbers ends.object.0) ≡ length (list_at left.cells c) + length (list_at right.cells c)
  pub within : All (λ class. class < length (list_at firsts ends.object.0)) (list_at numbers ends.object.0)
  pub few : length (list_at numbers ends.object.0) < 2 ^ 32

-- what merging the cells of an attribute gives
abbrev pub MergesAt : RowLists → RowLists → List (List ℕ) → List (List ℕ) → ℕ → AttrEnds → Merged → Type 0
MergesAt left right numbers firsts c ends merged =
    Merges (cell_at (both_cells left right c)) (list_at numbers ends.object.0) (length (list_at firsts ends.object.0)) merged

-- and of each attribute
abbrev pub MergesEach : RowLists → RowLists → List (List ℕ) → List (List ℕ) → List AttrEnds → List Merged → Type 0
MergesEach left right numbers firsts attributes merged = (c : ℕ) (ends : AttrEnds) → c < length merged → slice_get attributes c ≡ Some ends
    → (each : Merged) × (slice_get merged c ≡ Some each) × MergesAt left right numbers firsts c ends each

-- no clash of the first n attributes is at an earlier object, class and attribute
pub record IsFirstOf (n : ℕ) (attributes : List AttrEnds) (merged : List Merged) (clash : ClashAt) : Type 0 where
  pub before : clash.attr.0 < n
  pub ends : AttrEnds
  pub there : slice_get attributes clash.attr.0 ≡ Some ends
  pub holder : ends.object ≡ clash.object
  pub differs : slice_get merged clash.attr.0 ≡ Some (Differ clash.difference)
  pub least : (c : ℕ) (other : AttrEnds) (difference : Difference) → c < n → slice_get attributes c ≡ Some other → slice_get merged c ≡ Some (Differ difference)
      → IsEarlierPlace other.object.0 difference.class c clash.object.0 clash.difference.class clash.attr.0 → ⊥

-- the first clash of the first n attributes, or none where there is none
abbrev pub FirstOf : ℕ → List AttrEnds → List Merged → Option ClashAt → Type 0
FirstOf n attributes merged None = (c : ℕ) (ends : AttrEnds) (difference : Difference) → c < n → slice_get attributes c ≡ Some ends
    → slice_get merged c ≡ Some (Differ difference) → ⊥
FirstOf n attributes merged (Some clash) = IsFirstOf n attributes merged clash
