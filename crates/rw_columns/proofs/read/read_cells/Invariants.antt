-- The cells of the attributes so far.
use Rattle.std.proofs.Common.{[], map}
use Rattle.rw_columns.specs.inner.Filled.{AreAll}
use Rattle.rw_columns.specs.inner.Read.{AreCellsIn}
use Rattle.rw_columns.proofs.read.read_cells.Given as goal

abbrev pub invariant-loop-place : goal.invariant-loop-place
invariant-loop-place g l =
    AreAll [] (AreCellsIn (map (λ list. list.items) l.lists) (map (λ each. each.object.0) l.ends) (map (λ list. list.items) l.names)) l.place
    (map (λ list. list.items) l.cells.items)
