-- The first fault of all is the first of what is left.
use Rattle.std.proofs.Common.{◌≡◌, map, drop}
use Rattle.rw_schema.specs.First.{first_in}
use Rattle.rw_schema.specs.Presentation.{ends_of_arrow}
use Rattle.rw_pattern.specs.MapFaults.{square_fault}
use Rattle.rw_pattern.proofs.check.first_square.Given as goal

abbrev pub invariant-loop-number : goal.invariant-loop-number
invariant-loop-number l =
    let arrows = map ends_of_arrow l.schema.arrows in
    first_in (square_fault l.from l.to l.images) 0 arrows ≡ first_in (square_fault l.from l.to l.images) l.number (drop l.number arrows)
