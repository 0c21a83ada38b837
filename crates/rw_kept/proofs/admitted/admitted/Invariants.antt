-- Of the matches so far those at whose places each condition has what it wants.
use Rattle.std.proofs.Common.{◌≡◌, map, take}
use Rattle.rw_schema.specs.First.{flat_map_in}
use Rattle.rw_kept.specs.inner.Groups.{match_if_met}
use Rattle.rw_kept.proofs.admitted.admitted.Given as goal

abbrev pub invariant-loop-place : goal.invariant-loop-place
invariant-loop-place l =
    let groups = map (λ of_condition. map (λ group. group.items) of_condition.items) l.groups in
    l.list.items ≡ flat_map_in (match_if_met l.conditions groups) 0 (take l.place l.matches)
