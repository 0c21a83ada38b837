-- All rows pass where those that are left do.
use Rattle.std.proofs.Common.{◌≡◌, map, drop}
use Rattle.rw_schema.specs.First.{all_in}
use Rattle.rw_schema.specs.Presentation.{ends_of_arrow}
use Rattle.rw_pattern.specs.PatternFaults.{is_in_range}
use Rattle.rw_pattern.proofs.range.have_images.Given as goal

abbrev pub invariant-loop-number : goal.invariant-loop-number
invariant-loop-number l =
    let arrows = map ends_of_arrow l.schema.arrows in
    all_in (is_in_range l.pattern) 0 arrows ≡ all_in (is_in_range l.pattern) l.number (drop l.number arrows)
