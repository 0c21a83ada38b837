-- The least difference among the parts passed.
use Rattle.std.proofs.Common.{◌++◌}
use Rattle.rw_classes.specs.Merging.{cell_at}
use Rattle.rw_classes.specs.inner.Merging.{LeastDifference}
use Rattle.rw_classes.proofs.merge.least_difference.Given as goal

abbrev pub invariant-loop-place : goal.invariant-loop-place
invariant-loop-place l = LeastDifference (cell_at (l.left ++ l.right)) l.numbers l.firsts l.place l.found
