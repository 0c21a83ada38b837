-- The cells of the attributes so far.
use Rattle.std.proofs.Common.{[], map}
use Rattle.rw_columns.specs.inner.Filled.{AreAll}
use Rattle.rw_glue.specs.inner.Sides.{AreHeld}
use Rattle.rw_glue.proofs.cells.held_lists.Given as goal

abbrev pub invariant-loop-place : goal.invariant-loop-place
invariant-loop-place g l = AreAll [] (AreHeld (g.P.Probe.signature l.probe) (g.P.Probe.instance l.probe) (map (λ list. list.items) l.blank) (map (λ list. list.items) l.touched)) l.place (map (λ list. list.items) l.cells.items)
