-- The whole path leads where what is left of it leads from the part that it has come to.
use Rattle.std.proofs.Common.{◌≡◌, drop}
use Rattle.rw_spec.specs.Instance.{follow}
use Rattle.rw_pattern.specs.PatternLists.{instance_of_pattern}
use Rattle.rw_pattern.proofs.equations.follow.Given as goal

abbrev pub invariant-loop-arrow : goal.invariant-loop-arrow
invariant-loop-arrow l =
    follow (instance_of_pattern l.pattern) l.path l.part ≡ follow (instance_of_pattern l.pattern) (drop l.arrow-index l.path) l.end
