-- Changes of an instance that is kept in columns.
use Rattle.std.specs.Prelude.{◌≡◌, ◌<◌, ◌≤◌, ℕ, Some, slice_get, slice_index}
use Rattle.rw_schema.specs.declared.signature.ArrowEnds.{ArrowEnds}
use Rattle.rw_schema.specs.declared.signature.AttrEnds.{AttrEnds}
use Rattle.rw_spec.specs.Same.{AreSame}
use Rattle.rw_columns.specs.Changes.{ChangeLists, Fits, changed}
use Rattle.rw_columns.specs.Columned.{Columned, column_at, instance_of_columns, next_of}

-- the change can be carried out on the instance of the columns
abbrev pub FitsColumns : Columned → ChangeLists → Type 0
FitsColumns columns change = Fits columns.signature (instance_of_columns columns) (next_of columns) change

-- each column has room for the places and the numbers that there are after the change
pub record HasRoom (columns : Columned) (change : ChangeLists) : Type 0 where
  pub names : (object : ℕ) → object < columns.signature.objects → slice_index change.added.next object ≤ (column_at columns.names object).room
  pub arrows : (a : ℕ) (ends : ArrowEnds) → slice_get columns.signature.arrows a ≡ Some ends
      → (slice_index change.added.next ends.source.0 ≤ (column_at columns.arrows a).room)
      × (slice_index change.added.next ends.target.0 ≤ (column_at columns.arrows a).target_room)
  pub cells : (c : ℕ) (ends : AttrEnds) → slice_get columns.signature.attributes c ≡ Some ends
      → slice_index change.added.next ends.object.0 ≤ slice_index columns.cell_rooms c

-- both are one instance, with the same next names
pub record KeepContents (old new : Columned) : Type 0 where
  pub signature : new.signature ≡ old.signature
  pub instance : instance_of_columns new ≡ instance_of_columns old
  pub next : (object : ℕ) → next_of new object ≡ next_of old object

-- the new columns are what the change makes of the old ones
pub record AreChanged (old : Columned) (change : ChangeLists) (new : Columned) : Type 0 where
  pub signature : new.signature ≡ old.signature
  pub instance : AreSame old.signature (instance_of_columns new) (changed old.signature (instance_of_columns old) change)
  -- the names of each object are in the same order, too
  pub names : (object : ℕ) → object < old.signature.objects
      → (instance_of_columns new).names object ≡ (changed old.signature (instance_of_columns old) change).names object
  pub next : (object : ℕ) → object < old.signature.objects → next_of new object ≡ slice_index change.added.next object
