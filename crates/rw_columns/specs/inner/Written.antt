-- What is written in a column or in a list of cells.
use Rattle.std.specs.Prelude.{◌≡◌, ◌≢◌, ◌<◌, ◌≤◌, ℕ, true, List, [], Option, None, length, map, slice_index, slice_index_or}
use Rattle.rw_schema.specs.declared.atom.Atom.{Atom}
use Rattle.rw_spec.specs.Ascending.{ascends}
use Rattle.rw_spec.specs.Instance.{look}
use Rattle.rw_column.specs.Threads.{Threaded, nothing}
use Rattle.rw_columns.specs.Changes.{beside, entry_names, entry_values}

-- the number at a place, and nothing where there is no place
abbrev pub number_at : Threaded → ℕ → ℕ
number_at column place = slice_index_or column.values place nothing

-- the cell at a place, and none where there is no place
abbrev pub cell_at : List (Option Atom) → ℕ → Option Atom
cell_at cells place = slice_index_or cells place None

-- those of the names that are done have the entries beside them, and elsewhere all is as before
pub record IsWritten {A : Type 0} (Done : ℕ → Type 0) (names : List ℕ) (entry : ℕ → A) (old new : ℕ → A) : Type 0 where
  pub beside : (k : ℕ) → Done k → new (slice_index names k) ≡ entry k
  pub elsewhere : (x : ℕ) → ((k : ℕ) → Done k → slice_index names k ≢ x) → new x ≡ old x

-- so in a column, of as many places and numbers
pub record IsColumnWritten (Done : ℕ → Type 0) (names : List ℕ) (entry : ℕ → ℕ) (old new : Threaded) : Type 0 where
  pub long : length new.values ≡ length old.values
  pub wide : new.targets ≡ old.targets
  pub written : IsWritten Done names entry (number_at old) (number_at new)

-- so in as many cells
pub record AreCellsWritten (Done : ℕ → Type 0) (names : List ℕ) (entry : ℕ → Option Atom) (old new : List (Option Atom)) : Type 0 where
  pub long : length new ≡ length old
  pub written : IsWritten Done names entry (cell_at old) (cell_at new)

-- what stands at a name after the removed names are taken off, entries are written and others are added
abbrev pub replaced : {A : Type 0} → A → List ℕ → List (ℕ × A) → List ℕ → List A → A → ℕ → A
replaced none removed entries added values old name =
    look (beside (look old removed (map (λ other. none) removed) name) entries name) added values name

-- one column can be changed so
pub record MayChange (removed : List ℕ) (rows : List (ℕ × ℕ)) (added images : List ℕ) (places targets : ℕ) (column : Threaded) : Type 0 where
  pub room : places ≤ column.room
  pub grows : length column.values ≤ places
  pub widens : column.targets ≤ targets
  pub removed_ascend : ascends removed ≡ true
  pub removed_there : (k : ℕ) → k < length removed → number_at column (slice_index removed k) ≢ nothing
  pub rows_ascend : ascends (entry_names rows) ≡ true
  pub rows_there : (k : ℕ) → k < length rows → number_at column (slice_index (entry_names rows) k) ≢ nothing
  pub rows_stay : (j k : ℕ) → j < length removed → k < length rows → slice_index removed j ≢ slice_index (entry_names rows) k
  pub rows_within : (k : ℕ) → k < length rows → slice_index (entry_values rows) k < targets
  pub added_ascend : ascends added ≡ true
  pub added_new : (k : ℕ) → k < length added → length column.values ≤ slice_index added k
  pub added_below : (k : ℕ) → k < length added → slice_index added k < places
  pub beside : length images ≡ length added
  pub images_within : (k : ℕ) → k < length images → slice_index images k < targets

-- the column of an arrow can be changed so: it has room for the numbers, too
pub record MayChangeArrow (removed : List ℕ) (rows : List (ℕ × ℕ)) (added images : List ℕ) (places targets : ℕ) (column : Threaded) : Type 0 where
  pub fits : MayChange removed rows added images places targets column
  pub target_room : targets ≤ column.target_room

-- and is changed so
pub record IsChanged (removed : List ℕ) (rows : List (ℕ × ℕ)) (added images : List ℕ) (places targets : ℕ) (old new : Threaded) : Type 0 where
  pub long : length new.values ≡ places
  pub wide : new.targets ≡ targets
  pub few : targets ≤ nothing
  pub numbers : (x : ℕ) → number_at new x ≡ replaced nothing removed rows added images (number_at old x) x

-- one column of names can be changed so: it has the number 0 alone
pub record MayChangeNames (removed added : List ℕ) (places : ℕ) (column : Threaded) : Type 0 where
  pub fits : MayChange removed [] added (map (λ name. 0) added) places 1 column
  pub alone : column.targets ≡ 1

-- and is changed so
abbrev pub IsChangedNames : List ℕ → List ℕ → ℕ → Threaded → Threaded → Type 0
IsChangedNames removed added places old new = IsChanged removed [] added (map (λ name. 0) added) places 1 old new

-- the columns that are done are changed, and the others are as before
pub record AreDone {A : Type 0} (Changed : ℕ → A → A → Type 0) (Done : ℕ → Type 0) (old new : ℕ → A) : Type 0 where
  pub done : (place : ℕ) → Done place → Changed place (old place) (new place)
  pub rest : (place : ℕ) → (Done place → ⊥) → new place ≡ old place

-- one list of cells can be renewed so
pub record MayRenew (removed added : List ℕ) (atoms : List (Option Atom)) (places : ℕ) (list : List (Option Atom)) : Type 0 where
  pub grows : length list ≤ places
  pub removed_ascend : ascends removed ≡ true
  pub removed_there : (k : ℕ) → k < length removed → slice_index removed k < length list
  pub added_ascend : ascends added ≡ true
  pub added_below : (k : ℕ) → k < length added → slice_index added k < places
  pub beside : length atoms ≡ length added

-- and is renewed so: the cells of the removed names are blank, and those of the added names are there
pub record IsRenewed (removed added : List ℕ) (atoms : List (Option Atom)) (places : ℕ) (old new : List (Option Atom)) : Type 0 where
  pub long : length new ≡ places
  pub cells : (x : ℕ) → cell_at new x ≡ look (look (cell_at old x) removed (map (λ name. None) removed) x) added atoms x

-- one list of cells can be written so
pub record MayWrite (entries : List (ℕ × Option Atom)) (list : List (Option Atom)) : Type 0 where
  pub ascend : ascends (entry_names entries) ≡ true
  pub within : (k : ℕ) → k < length entries → slice_index (entry_names entries) k < length list

-- and is written so
pub record IsListWritten (entries : List (ℕ × Option Atom)) (old new : List (Option Atom)) : Type 0 where
  pub long : length new ≡ length old
  pub cells : (x : ℕ) → cell_at new x ≡ beside (cell_at old x) entries x

-- the first items of a list, which are left of it
pub record IsFront {A : Type 0} (front all : List A) : Type 0 where
  pub count : length front ≤ length all
  pub same : (k : ℕ) (none : A) → k < length front → slice_index_or front k none ≡ slice_index_or all k none
