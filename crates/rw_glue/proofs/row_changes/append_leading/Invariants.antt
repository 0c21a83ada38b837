-- The names so far, and those that are left.
use Rattle.std.proofs.Common.{◌≡◌, ◌++◌, length, not, filter}
use Rattle.rw_delta.specs.ContextLists.{is_in}
use Rattle.rw_glue.specs.inner.Changed.{leads_out}
use Rattle.rw_glue.proofs.row_changes.append_leading.Given as goal

abbrev pub invariant-loop-name : goal.invariant-loop-name
invariant-loop-name g l = l.names.items ++ filter (λ x. not (is_in l.removed x)) l.walk
    ≡ l.initial.names.items ++ leads_out (g.P.Probe.signature l.probe) (g.P.Probe.instance l.probe) l.fn.arrow.0 l.removed l.fn.target

abbrev pub decreases-loop-name : goal.decreases-loop-name
decreases-loop-name g l = length l.walk
