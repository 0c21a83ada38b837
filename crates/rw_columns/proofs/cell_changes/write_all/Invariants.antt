-- The lists that are left are the first, and the entries of the other attributes are written.
use Rattle.std.proofs.Common.{◌≡◌, ◌<◌, ◌≤◌, length, map}
use Rattle.rw_schema.specs.RowLists.{list_at}
use Rattle.rw_columns.specs.inner.Written.{IsListWritten, AreDone, IsFront}
use Rattle.rw_columns.proofs.cell_changes.write_all.Given as goal

abbrev pub invariant-loop-list : goal.invariant-loop-list
invariant-loop-list l = record {
  front : IsFront l.entries.items l.initial.entries.items;
  count : length l.lists.items ≡ length l.initial.lists.items;
  done : AreDone (λ c old new. c < length l.initial.lists.items → IsListWritten (list_at (map (λ list. list.items) l.initial.entries.items) c) old new)
      (λ c. length l.entries.items ≤ c) (list_at (map (λ list. list.items) l.initial.lists.items)) (list_at (map (λ list. list.items) l.lists.items));
}

abbrev pub decreases-loop-list : goal.decreases-loop-list
decreases-loop-list l = length l.entries.items
