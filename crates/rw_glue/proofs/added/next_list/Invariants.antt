-- The next names so far.
use Rattle.rw_columns.specs.inner.Filled.{AreAll}
use Rattle.rw_glue.specs.inner.Changed.{IsNextAfter}
use Rattle.rw_glue.proofs.added.next_list.Given as goal

abbrev pub invariant-loop-place : goal.invariant-loop-place
invariant-loop-place l = AreAll 0 (IsNextAfter l.rule l.next) l.place l.list.items
