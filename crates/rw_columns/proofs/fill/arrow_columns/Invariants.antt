-- The columns of the arrows so far.
use Rattle.rw_schema.specs.Presentation.{signature_of}
use Rattle.rw_columns.specs.Columned.{no_column}
use Rattle.rw_columns.specs.inner.Filled.{IsArrowColumn, AreAll}
use Rattle.rw_columns.proofs.fill.arrow_columns.Given as goal

abbrev pub invariant-loop-place : goal.invariant-loop-place
invariant-loop-place l = AreAll no_column (IsArrowColumn (signature_of l.schema) l.rows) l.place l.columns.items
