use Rattle.std.proofs.Common.{length}
use Rattle.rw_column.proofs.tests.walked.Given as goal

-- the places that are left
abbrev pub decreases-loop-place : goal.decreases-loop-place
decreases-loop-place g l = length l.walk
