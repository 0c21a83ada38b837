-- The first fault of all is the first of what is left.
use Rattle.std.proofs.Common.{◌≡◌, drop}
use Rattle.rw_schema.specs.First.{first_in}
use Rattle.rw_pattern.specs.MapFaults.{image_fault}
use Rattle.rw_pattern.proofs.check.first_stray.Given as goal

abbrev pub invariant-loop-number : goal.invariant-loop-number
invariant-loop-number l =
    first_in (image_fault l.to l.images) 0 l.from.sizes ≡ first_in (image_fault l.to l.images) l.number (drop l.number l.from.sizes)
