-- What is kept of the walk is kept of what is left of it.
use Rattle.std.proofs.Common.{◌≡◌, filter, length}
use Rattle.rw_columns.specs.inner.Walks.{walk_list, is_kept}
use Rattle.rw_columns.proofs.staying.next_kept.Given as goal

abbrev pub invariant-loop-name : goal.invariant-loop-name
invariant-loop-name l = filter (is_kept l.removed l.rows) (walk_list l.fn.walk) ≡ filter (is_kept l.removed l.rows) (walk_list l.walk)

abbrev pub decreases-loop-name : goal.decreases-loop-name
decreases-loop-name l = length (walk_list l.walk)
