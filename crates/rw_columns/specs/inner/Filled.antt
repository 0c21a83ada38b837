-- Columns that are filled from lists.
use Rattle.std.specs.Prelude.{◌≡◌, ◌≢◌, ◌<◌, ◌≤◌, ℕ, List, [], Option, None, length, slice_index, slice_index_or}
use Rattle.rw_schema.specs.declared.atom.Atom.{Atom}
use Rattle.rw_schema.specs.RowLists.{RowLists, list_at}
use Rattle.rw_schema.specs.Signature.{Signature, IsCategory, source_of, holder_of}
use Rattle.rw_spec.specs.Ends.{target_of}
use Rattle.rw_table.specs.TableFaults.{table_fault}
use Rattle.rw_column.specs.Threads.{Threaded, nothing}
use Rattle.rw_columns.specs.Columned.{Columned, no_column}

-- of the places below a bound, the first names have the entries beside them, and the other places have none
pub record IsFilled {A : Type 0} (none : A) (names : List ℕ) (entry : ℕ → A) (count bound : ℕ) (value : ℕ → A) : Type 0 where
  pub beside : (k : ℕ) → k < count → value (slice_index names k) ≡ entry k
  pub elsewhere : (x : ℕ) → x < bound → ((k : ℕ) → k < count → slice_index names k ≢ x) → value x ≡ none

-- a column of so many places and numbers, where the first names have the numbers beside them, and the other places have none
pub record IsFilledTo (count places numbers : ℕ) (names : List ℕ) (entry : ℕ → ℕ) (column : Threaded) : Type 0 where
  pub long : length column.values ≡ places
  pub wide : column.targets ≡ numbers
  pub few : numbers ≤ nothing
  pub filled : IsFilled nothing names entry count places (slice_index column.values)

-- a column of so many places and numbers that has at each name the number beside it
abbrev pub IsFilledColumn : ℕ → ℕ → List ℕ → (ℕ → ℕ) → Threaded → Type 0
IsFilledColumn places numbers names entry column = IsFilledTo (length names) places numbers names entry column

-- the column of an object's names: the number 0 at each
abbrev pub IsNamesColumn : RowLists → ℕ → Threaded → Type 0
IsNamesColumn rows object column = IsFilledColumn (slice_index rows.next object) 1 (list_at rows.names object) (λ k. 0) column

-- the column of an arrow: at each name of its source the image
abbrev pub IsArrowColumn : Signature → RowLists → ℕ → Threaded → Type 0
IsArrowColumn C rows arrow column =
    IsFilledColumn (slice_index rows.next (source_of C arrow)) (slice_index rows.next (target_of C arrow))
    (list_at rows.names (source_of C arrow)) (slice_index (list_at rows.arrows arrow)) column

-- so many cells, where the first names have the cells beside them, and the other places are blank
pub record AreFilledTo (count places : ℕ) (names : List ℕ) (cells : List (Option Atom)) (list : List (Option Atom)) : Type 0 where
  pub long : length list ≡ places
  pub filled : IsFilled None names (λ k. slice_index_or cells k None) count places (λ x. slice_index_or list x None)

-- so many cells, that have at each name the cell beside it
abbrev pub AreFilledCells : ℕ → List ℕ → List (Option Atom) → List (Option Atom) → Type 0
AreFilledCells places names cells list = AreFilledTo (length names) places names cells list

-- the cells of an attribute, by name
abbrev pub AreCellsOf : Signature → RowLists → ℕ → List (Option Atom) → Type 0
AreCellsOf C rows attribute list =
    AreFilledCells (slice_index rows.next (holder_of C attribute)) (list_at rows.names (holder_of C attribute)) (list_at rows.cells attribute) list

-- so many items, each of them what it has to be at its place
pub record AreAll {A : Type 0} (none : A) (Is : ℕ → A → Type 0) (many : ℕ) (items : List A) : Type 0 where
  pub count : length items ≡ many
  pub each : (place : ℕ) → place < many → Is place (slice_index_or items place none)

-- columns that are filled from lists without a fault
pub record AreFilledFrom (C : Signature) (rows : RowLists) (columns : Columned) : Type 0 where
  pub category : IsCategory C
  pub no_fault : table_fault C rows ≡ None
  pub names : AreAll no_column (IsNamesColumn rows) C.objects columns.names
  pub arrows : AreAll no_column (IsArrowColumn C rows) (length C.arrows) columns.arrows
  pub cells : AreAll [] (AreCellsOf C rows) (length C.attributes) columns.cells
