-- All conditions have what they want where those that are left have.
use Rattle.std.proofs.Common.{◌≡◌, map, drop}
use Rattle.rw_schema.specs.First.{all_in}
use Rattle.rw_kept.specs.inner.Groups.{is_met_at}
use Rattle.rw_kept.proofs.admitted.are_met_at.Given as goal

abbrev pub invariant-loop-number : goal.invariant-loop-number
invariant-loop-number l =
    let groups = map (λ of_condition. map (λ group. group.items) of_condition.items) l.groups in
    all_in (is_met_at groups l.place) 0 l.conditions ≡ all_in (is_met_at groups l.place) l.number (drop l.number l.conditions)
