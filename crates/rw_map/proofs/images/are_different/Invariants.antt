-- The numbers are different where those that are left are.
use Rattle.std.proofs.Common.{◌≡◌, drop}
use Rattle.rw_spec.specs.Distinct.{are_distinct}
use Rattle.rw_map.proofs.images.are_different.Given as goal

abbrev pub invariant-loop-place : goal.invariant-loop-place
invariant-loop-place l = are_distinct l.numbers ≡ are_distinct (drop l.place l.numbers)
