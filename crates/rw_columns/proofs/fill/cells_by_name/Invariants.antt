-- The names so far have the cells beside them.
use Rattle.rw_columns.specs.inner.Filled.{AreFilledTo}
use Rattle.rw_columns.proofs.fill.cells_by_name.Given as goal

abbrev pub invariant-loop-place : goal.invariant-loop-place
invariant-loop-place l = AreFilledTo l.place l.places l.names l.cells l.list.items
