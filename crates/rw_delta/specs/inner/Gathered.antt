-- Names that are gathered from lists of entries.
use Rattle.std.specs.Prelude.{◌≡◌, ◌⊎◌, ◌<◌, ℕ, List, length, slice_index, Contains}
use Rattle.rw_schema.specs.RowLists.{list_at}
use Rattle.rw_columns.specs.Changes.{entry_names}
use Rattle.rw_delta.specs.Deltas.{IsListOf}

-- the name has an entry in one of the first lists whose owner is the object
abbrev pub IsWritten : {A : Type 0} → List ℕ → List (List (ℕ × A)) → ℕ → ℕ → ℕ → Type 0
IsWritten owners lists object count x = (k : ℕ) × (k < count) × (slice_index owners k ≡ object) × Contains (entry_names (list_at lists k)) x

-- the names with such entries are gathered behind those that were there
pub record IsGathered {A : Type 0} (owners : List ℕ) (lists : List (List (ℕ × A))) (object count : ℕ) (old new : List ℕ) : Type 0 where
  pub keeps : (x : ℕ) → Contains old x → Contains new x
  pub has : (x : ℕ) → IsWritten owners lists object count x → Contains new x
  pub others : (x : ℕ) → Contains new x → Contains old x ⊎ IsWritten owners lists object count x

-- the names of an object with an entry in one of the rows or in one of the lists of cells
abbrev pub AreTouched : {A B : Type 0} → List ℕ → List (List (ℕ × A)) → List ℕ → List (List (ℕ × B)) → ℕ → List ℕ → Type 0
AreTouched sources rows holders cells object names =
    IsListOf (λ x. IsWritten sources rows object (length sources) x ⊎ IsWritten holders cells object (length holders) x) names

-- the names that stand in one of two lists
abbrev pub AreJoined : List (List ℕ) → List (List ℕ) → ℕ → List ℕ → Type 0
AreJoined first second object names = IsListOf (λ x. Contains (list_at first object) x ⊎ Contains (list_at second object) x) names
