-- The cells of the attributes so far.
use Rattle.std.proofs.Common.{[], map}
use Rattle.rw_schema.specs.Presentation.{signature_of}
use Rattle.rw_columns.specs.inner.Filled.{AreCellsOf, AreAll}
use Rattle.rw_columns.proofs.fill.cell_lists.Given as goal

abbrev pub invariant-loop-place : goal.invariant-loop-place
invariant-loop-place l = AreAll [] (AreCellsOf (signature_of l.schema) l.rows) l.place (map (λ list. list.items) l.lists.items)
