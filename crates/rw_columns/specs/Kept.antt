-- The lists that columns keep.
use Rattle.std.specs.Prelude.{◌≡◌, ℕ, map, Some, slice_get, slice_index}
use Rattle.std.specs.List.{range_with_len}
use Rattle.rw_schema.specs.declared.signature.ArrowEnds.{ArrowEnds}
use Rattle.rw_schema.specs.RowLists.{RowLists}
use Rattle.rw_schema.specs.Signature.{Signature}
use Rattle.rw_spec.specs.Instance.{Has, instance_of, lists_of}
use Rattle.rw_columns.specs.Columned.{Columned, instance_of_columns, next_of}

-- the columns are over the signature and have the names of the lists in the same order, the same values and cells at these,
-- and the same next names
pub record Keeps (C : Signature) (rows : RowLists) (columns : Columned) : Type 0 where
  pub signature : columns.signature ≡ C
  pub names : (object : ℕ) → (instance_of_columns columns).names object ≡ (instance_of C rows).names object
  pub values : (a : ℕ) (ends : ArrowEnds) (x : ℕ) → slice_get C.arrows a ≡ Some ends → Has (instance_of C rows) ends.source.0 x
      → (instance_of_columns columns).value a x ≡ (instance_of C rows).value a x
  pub cells : (c x : ℕ) → (instance_of_columns columns).cell c x ≡ (instance_of C rows).cell c x
  pub next : (object : ℕ) → next_of columns object ≡ slice_index rows.next object

-- the lists that columns keep: those of their instance, with their next names
abbrev pub lists_of_columns : Columned → RowLists
lists_of_columns columns = lists_of columns.signature (instance_of_columns columns) (map (next_of columns) (range_with_len 0 columns.signature.objects))
