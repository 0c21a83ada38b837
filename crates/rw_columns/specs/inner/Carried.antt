-- When all columns and cells can be changed, and what they are afterwards.
use Rattle.std.specs.Prelude.{◌≡◌, ◌<◌, ◌≤◌, ℕ, List, Option, Some, length, slice_get, slice_index}
use Rattle.rw_schema.specs.declared.atom.Atom.{Atom}
use Rattle.rw_schema.specs.declared.signature.ArrowEnds.{ArrowEnds}
use Rattle.rw_schema.specs.declared.signature.AttrEnds.{AttrEnds}
use Rattle.rw_schema.specs.RowLists.{list_at}
use Rattle.rw_column.specs.Threads.{Threaded}
use Rattle.rw_columns.specs.Columned.{column_at}
use Rattle.rw_columns.specs.inner.Written.{MayChangeArrow, IsChanged, MayChangeNames, IsChangedNames, MayRenew, IsRenewed, MayWrite, IsListWritten}

-- the columns of the names of all objects can be changed
pub record MayChangeAllNames (removed added : List (List ℕ)) (next : List ℕ) (columns : List Threaded) : Type 0 where
  pub removed_count : length removed ≡ length columns
  pub added_count : length added ≡ length columns
  pub next_count : length next ≡ length columns
  pub each : (object : ℕ) → object < length columns
      → MayChangeNames (list_at removed object) (list_at added object) (slice_index next object) (column_at columns object)

-- and are changed
pub record AreAllNamesChanged (removed added : List (List ℕ)) (next : List ℕ) (old new : List Threaded) : Type 0 where
  pub count : length new ≡ length old
  pub each : (object : ℕ) → object < length old
      → IsChangedNames (list_at removed object) (list_at added object) (slice_index next object) (column_at old object) (column_at new object)

-- the columns of all arrows can be changed
pub record MayChangeAllArrows (ends : List ArrowEnds) (removed : List (List ℕ)) (rows : List (List (ℕ × ℕ))) (added images : List (List ℕ)) (next : List ℕ)
    (columns : List Threaded) : Type 0 where
  pub ends_count : length ends ≡ length columns
  pub rows_count : length rows ≡ length columns
  pub images_count : length images ≡ length columns
  pub sources : (a : ℕ) (arrow : ArrowEnds) → slice_get ends a ≡ Some arrow
      → (arrow.source.0 < length removed) × (arrow.source.0 < length added) × (arrow.source.0 < length next)
  pub targets : (a : ℕ) (arrow : ArrowEnds) → slice_get ends a ≡ Some arrow → arrow.target.0 < length next
  pub each : (a : ℕ) (arrow : ArrowEnds) → slice_get ends a ≡ Some arrow
      → MayChangeArrow (list_at removed arrow.source.0) (list_at rows a) (list_at added arrow.source.0) (list_at images a)
      (slice_index next arrow.source.0) (slice_index next arrow.target.0) (column_at columns a)

-- and are changed
pub record AreAllArrowsChanged (ends : List ArrowEnds) (removed : List (List ℕ)) (rows : List (List (ℕ × ℕ))) (added images : List (List ℕ)) (next : List ℕ)
    (old new : List Threaded) : Type 0 where
  pub count : length new ≡ length old
  pub each : (a : ℕ) (arrow : ArrowEnds) → slice_get ends a ≡ Some arrow
      → IsChanged (list_at removed arrow.source.0) (list_at rows a) (list_at added arrow.source.0) (list_at images a)
      (slice_index next arrow.source.0) (slice_index next arrow.target.0) (column_at old a) (column_at new a)

-- the cells of all attributes can be renewed
pub record MayRenewAll (ends : List AttrEnds) (removed added : List (List ℕ)) (cells : List (List (Option Atom))) (next rooms : List ℕ)
    (lists : List (List (Option Atom))) : Type 0 where
  pub ends_count : length ends ≡ length lists
  pub cells_count : length cells ≡ length lists
  pub objects : (c : ℕ) (attribute : AttrEnds) → slice_get ends c ≡ Some attribute
      → (attribute.object.0 < length removed) × (attribute.object.0 < length added) × (attribute.object.0 < length next)
  pub each : (c : ℕ) (attribute : AttrEnds) → slice_get ends c ≡ Some attribute
      → MayRenew (list_at removed attribute.object.0) (list_at added attribute.object.0) (list_at cells c) (slice_index next attribute.object.0) (list_at lists c)
  pub room : (c : ℕ) (attribute : AttrEnds) → slice_get ends c ≡ Some attribute → slice_index next attribute.object.0 ≤ slice_index rooms c

-- and are renewed
pub record AreAllRenewed (ends : List AttrEnds) (removed added : List (List ℕ)) (cells : List (List (Option Atom))) (next : List ℕ)
    (old new : List (List (Option Atom))) : Type 0 where
  pub count : length new ≡ length old
  pub each : (c : ℕ) (attribute : AttrEnds) → slice_get ends c ≡ Some attribute
      → IsRenewed (list_at removed attribute.object.0) (list_at added attribute.object.0) (list_at cells c) (slice_index next attribute.object.0)
      (list_at old c) (list_at new c)

-- entries can be written in the cells of all attributes
pub record MayWriteAll (entries : List (List (ℕ × Option Atom))) (lists : List (List (Option Atom))) : Type 0 where
  pub count : length entries ≡ length lists
  pub each : (c : ℕ) → c < length lists → MayWrite (list_at entries c) (list_at lists c)

-- and are written
pub record AreAllWritten (entries : List (List (ℕ × Option Atom))) (old new : List (List (Option Atom))) : Type 0 where
  pub count : length new ≡ length old
  pub each : (c : ℕ) → c < length old → IsListWritten (list_at entries c) (list_at old c) (list_at new c)
