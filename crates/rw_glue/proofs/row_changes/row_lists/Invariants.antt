-- The rows of the arrows so far.
use Rattle.std.proofs.Common.{[], map}
use Rattle.rw_columns.specs.inner.Filled.{AreAll}
use Rattle.rw_glue.specs.inner.Changed.{AreRowChanges}
use Rattle.rw_glue.proofs.row_changes.row_lists.Given as goal

abbrev pub invariant-loop-place : goal.invariant-loop-place
invariant-loop-place g l = AreAll [] (AreRowChanges (g.P.Probe.signature l.probe) (g.P.Probe.instance l.probe) (map (λ list. list.items) l.removed) (map (λ list. list.items) l.moved)) l.place (map (λ list. list.items) l.rows.items)
