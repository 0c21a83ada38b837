-- The columns of the objects so far.
use Rattle.rw_columns.specs.Columned.{no_column}
use Rattle.rw_columns.specs.inner.Filled.{IsNamesColumn, AreAll}
use Rattle.rw_columns.proofs.fill.names_columns.Given as goal

abbrev pub invariant-loop-place : goal.invariant-loop-place
invariant-loop-place l = AreAll no_column (IsNamesColumn l.rows) l.place l.columns.items
