-- Changes of an instance, and the instance that a change gives.
use Rattle.std.specs.Prelude.{◌≡◌, ◌≢◌, ◌==◌, ◌<◌, ◌≤◌, ℕ, Bool, true, not, cond, List, [], ◌∷◌, ◌++◌, Option, Some, filter, length, map, slice_get, slice_index, Contains, All}
use Rattle.std.specs.List.{list_any}
use Rattle.rw_schema.specs.declared.atom.Atom.{Atom}
use Rattle.rw_schema.specs.declared.signature.ArrowEnds.{ArrowEnds}
use Rattle.rw_schema.specs.declared.signature.AttrEnds.{AttrEnds}
use Rattle.rw_schema.specs.RowLists.{RowLists, list_at}
use Rattle.rw_schema.specs.Signature.{Signature, source_of, holder_of}
use Rattle.rw_spec.specs.Ascending.{ascends}
use Rattle.rw_spec.specs.Instance.{Instance, Has, IsInstance, look}

-- a change, as lists
pub record ChangeLists : Type 0 where
  -- of each object the names that go
  pub removed : List (List ℕ)
  -- the names that come, with their rows and cells, and the next names afterwards
  pub added : RowLists
  -- of each arrow the names that stay and lead elsewhere, each with its new value
  pub rows : List (List (ℕ × ℕ))
  -- of each attribute the names that stay and have another cell, each with its new cell
  pub cells : List (List (ℕ × Option Atom))

-- the names of entries
abbrev pub entry_names : {A : Type 0} → List (ℕ × A) → List ℕ
entry_names entries = map (λ entry. entry.0) entries

-- what stands beside these names
abbrev pub entry_values : {A : Type 0} → List (ℕ × A) → List A
entry_values entries = map (λ entry. entry.1) entries

-- what is written beside a name, or the old where nothing is
abbrev pub beside : {A : Type 0} → A → List (ℕ × A) → ℕ → A
beside old entries name = look old (entry_names entries) (entry_values entries) name

-- the names that stay
abbrev pub staying : List ℕ → List ℕ → List ℕ
staying removed names = filter (λ name. not (list_any (λ other. other == name) removed)) names

-- the names of an object that stay under a change
abbrev pub staying_of : Instance → ChangeLists → ℕ → List ℕ
staying_of X change object = staying (list_at change.removed object) (X.names object)

-- the instance that a change gives: names that come have the rows and cells that come with them, names that stay
-- have what is written beside them, and what they had where nothing is
abbrev pub changed : Signature → Instance → ChangeLists → Instance
changed C X change = record {
  names = λ object. staying_of X change object ++ list_at change.added.names object;
  value = λ arrow name. look (beside (X.value arrow name) (list_at change.rows arrow) name)
      (list_at change.added.names (source_of C arrow)) (list_at change.added.arrows arrow) name;
  cell = λ attribute name. look (beside (X.cell attribute name) (list_at change.cells attribute) name)
      (list_at change.added.names (holder_of C attribute)) (list_at change.added.cells attribute) name;
}

-- the entries are for some of these names, in ascending order, and each differs from what stands at its name
pub record AreDifferences {A : Type 0} (names : List ℕ) (old : ℕ → A) (entries : List (ℕ × A)) : Type 0 where
  pub ascend : ascends (entry_names entries) ≡ true
  pub among : All (Contains names) (entry_names entries)
  pub differ : All (λ entry. old entry.0 ≢ entry.1) entries

-- the change can be carried out on the instance, where each object has this next name
pub record Fits (C : Signature) (X : Instance) (next : ℕ → ℕ) (change : ChangeLists) : Type 0 where
  -- there is one list for each object, arrow or attribute
  pub objects : (length change.removed ≡ C.objects) × (length change.added.names ≡ C.objects) × (length change.added.next ≡ C.objects)
  pub arrows : (length change.rows ≡ length C.arrows) × (length change.added.arrows ≡ length C.arrows)
  pub attributes : (length change.cells ≡ length C.attributes) × (length change.added.cells ≡ length C.attributes)
  -- the names that go are there
  pub removed_ascend : (object : ℕ) → object < C.objects → ascends (list_at change.removed object) ≡ true
  pub removed : (object : ℕ) → object < C.objects → All (Has X object) (list_at change.removed object)
  -- the names that come are new, and below the new next name
  pub added_ascend : (object : ℕ) → object < C.objects → ascends (list_at change.added.names object) ≡ true
  pub added : (object : ℕ) → object < C.objects
      → All (λ name. (next object ≤ name) × (name < slice_index change.added.next object)) (list_at change.added.names object)
  -- no next name falls
  pub next_grows : (object : ℕ) → object < C.objects → next object ≤ slice_index change.added.next object
  -- there is one entry for each name that comes
  pub added_rows : (a : ℕ) (ends : ArrowEnds) → slice_get C.arrows a ≡ Some ends
      → length (list_at change.added.arrows a) ≡ length (list_at change.added.names ends.source.0)
  pub added_cells : (c : ℕ) (ends : AttrEnds) → slice_get C.attributes c ≡ Some ends
      → length (list_at change.added.cells c) ≡ length (list_at change.added.names ends.object.0)
  -- what is written anew is for names that stay
  pub rows : (a : ℕ) (ends : ArrowEnds) → slice_get C.arrows a ≡ Some ends
      → AreDifferences (staying_of X change ends.source.0) (X.value a) (list_at change.rows a)
  pub cells : (c : ℕ) (ends : AttrEnds) → slice_get C.attributes c ≡ Some ends
      → AreDifferences (staying_of X change ends.object.0) (X.cell c) (list_at change.cells c)
  -- and an instance comes of it
  pub gives : IsInstance C (changed C X change)

-- the names at which a new entry differs from the old one, each with its new entry
abbrev pub differences : {A : Type 0} → (A → A → Bool) → (ℕ → A) → (ℕ → A) → List ℕ → List (ℕ × A)
differences same old new [] = []
differences same old new (name ∷ names) =
    cond (same (old name) (new name)) (differences same old new names) ((name, new name) ∷ differences same old new names)
