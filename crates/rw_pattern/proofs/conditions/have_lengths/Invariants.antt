-- All rows pass where those that are left do.
use Rattle.std.proofs.Common.{◌≡◌, map, drop, []}
use Rattle.rw_schema.specs.First.{all_in}
use Rattle.rw_schema.specs.Presentation.{ends_of_arrow}
use Rattle.rw_pattern.specs.PatternFaults.{has_length}
use Rattle.rw_pattern.proofs.conditions.have_lengths.Given as goal

abbrev pub invariant-loop-number : goal.invariant-loop-number
invariant-loop-number l =
    let test = has_length (record { sizes = l.sizes; rows = map (λ row. row.items) l.rows; cells = []; holders = [] }) in
    let arrows = map ends_of_arrow l.arrows in
    all_in test 0 arrows ≡ all_in test l.number (drop l.number arrows)
