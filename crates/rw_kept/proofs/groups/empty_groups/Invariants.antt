-- There is an empty group for each match so far.
use Rattle.std.proofs.Common.{◌≡◌, [], map, take}
use Rattle.rw_kept.proofs.groups.empty_groups.Given as goal

abbrev pub invariant-loop-tuple : goal.invariant-loop-tuple
invariant-loop-tuple l = map (λ group. group.items) l.groups.items ≡ map (λ tuple. []) (take l._tuple-index l.matches)
