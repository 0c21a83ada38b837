-- The next names of the objects so far.
use Rattle.rw_columns.specs.inner.Filled.{AreAll}
use Rattle.rw_columns.specs.inner.Read.{IsNextIn}
use Rattle.rw_columns.proofs.read.read_next.Given as goal

abbrev pub invariant-loop-place : goal.invariant-loop-place
invariant-loop-place l = AreAll 0 (IsNextIn l.columns) l.place l.next.items
