-- The first name outside the match is the first of those that are left.
use Rattle.std.proofs.Common.{◌≡◌, find, length, not}
use Rattle.rw_redex.specs.Matched.{is_matched}
use Rattle.rw_dpo.proofs.dangling.first_outside.Given as goal

abbrev pub invariant-loop-name : goal.invariant-loop-name
invariant-loop-name g l =
    find (λ name. not (is_matched l.rule l.tuple l.object.0 name)) l.initial.walk ≡ find (λ name. not (is_matched l.rule l.tuple l.object.0 name)) l.walk

abbrev pub decreases-loop-name : goal.decreases-loop-name
decreases-loop-name g l = length l.walk
