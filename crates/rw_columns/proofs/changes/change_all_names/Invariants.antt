-- The columns so far are changed, and the others are as before.
use Rattle.std.proofs.Common.{◌≡◌, ◌<◌, length, map, slice_index}
use Rattle.rw_schema.specs.RowLists.{list_at}
use Rattle.rw_columns.specs.Columned.{column_at}
use Rattle.rw_columns.specs.inner.Written.{IsChangedNames, AreDone}
use Rattle.rw_columns.proofs.changes.change_all_names.Given as goal

abbrev pub invariant-loop-place : goal.invariant-loop-place
invariant-loop-place l = record {
  count : length l.columns.items ≡ length l.initial.columns.items;
  done : AreDone (λ object. IsChangedNames (list_at (map (λ list. list.items) l.removed) object) (list_at (map (λ list. list.items) l.added) object) (slice_index l.next object))
      (λ object. object < l.place) (column_at l.initial.columns.items) (column_at l.columns.items);
}
