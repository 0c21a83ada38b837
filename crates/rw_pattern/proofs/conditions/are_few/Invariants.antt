-- The parts so far and the room left are the limit.
use Rattle.std.proofs.Common.{◌≡◌, ◌+◌, sum, take}
use Rattle.rw_pattern.proofs.conditions.are_few.Given as goal

abbrev pub invariant-loop-size : goal.invariant-loop-size
invariant-loop-size l = sum (take l.size-index l.sizes) + l.left ≡ 64
