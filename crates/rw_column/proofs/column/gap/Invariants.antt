use Rattle.std.proofs.Common.{length, get_or}
use Rattle.rw_column.specs.inner.Links.{IsAhead}
use Rattle.rw_column.proofs.column.gap.Given as goal

abbrev pub invariant-loop-node : goal.invariant-loop-node
invariant-loop-node l = IsAhead (length l.column.values) (λ z. get_or l.column.values z 0) l.value l.place l.node l.stop

abbrev pub decreases-loop-node : goal.decreases-loop-node
decreases-loop-node l = l.node
