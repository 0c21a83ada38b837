-- The lists of rows that are left are the first, and the columns of the other arrows are changed.
use Rattle.std.proofs.Common.{◌≡◌, ◌≤◌, Some, length, map, slice_get, slice_index}
use Rattle.rw_schema.specs.declared.signature.ArrowEnds.{ArrowEnds}
use Rattle.rw_schema.specs.RowLists.{list_at}
use Rattle.rw_columns.specs.Columned.{column_at}
use Rattle.rw_columns.specs.inner.Written.{IsChanged, AreDone, IsFront}
use Rattle.rw_columns.proofs.changes.change_all_arrows.Given as goal

abbrev pub invariant-loop-list : goal.invariant-loop-list
invariant-loop-list l = record {
  front : IsFront l.rows.items l.initial.rows.items;
  count : length l.columns.items ≡ length l.initial.columns.items;
  done : AreDone (λ a old new. (arrow : ArrowEnds) → slice_get l.ends a ≡ Some arrow
      → IsChanged (list_at (map (λ list. list.items) l.removed) arrow.source.0) (list_at (map (λ list. list.items) l.initial.rows.items) a)
      (list_at (map (λ list. list.items) l.added) arrow.source.0) (list_at (map (λ list. list.items) l.images) a)
      (slice_index l.next arrow.source.0) (slice_index l.next arrow.target.0) old new)
      (λ a. length l.rows.items ≤ a) (column_at l.initial.columns.items) (column_at l.columns.items);
}

abbrev pub decreases-loop-list : goal.decreases-loop-list
decreases-loop-list l = length l.rows.items
