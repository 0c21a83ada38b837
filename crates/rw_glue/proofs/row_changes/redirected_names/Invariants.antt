-- The names so far.
use Rattle.std.proofs.Common.{◌≡◌, take}
use Rattle.rw_columns.specs.Changes.{entry_names}
use Rattle.rw_glue.specs.inner.Changed.{redirected}
use Rattle.rw_glue.proofs.row_changes.redirected_names.Given as goal

abbrev pub invariant-loop-entry : goal.invariant-loop-entry
invariant-loop-entry g l = l.names.items ≡ redirected (g.P.Probe.signature l.probe) (g.P.Probe.instance l.probe) l.arrow.0 l.removed (entry_names (take l.entry-index l.moved))
