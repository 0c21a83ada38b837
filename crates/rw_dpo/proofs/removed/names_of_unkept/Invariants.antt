-- The names of the parts so far that are not kept.
use Rattle.std.proofs.Common.{◌≡◌, filter, map, not}
use Rattle.std.specs.List.{range_with_len}
use Rattle.rw_pattern.specs.PatternLists.{map_of_tuple}
use Rattle.rw_rule.specs.Images.{is_image}
use Rattle.rw_dpo.proofs.removed.names_of_unkept.Given as goal

abbrev pub invariant-loop-part : goal.invariant-loop-part
invariant-loop-part l =
    l.names.items ≡ map (map_of_tuple l.rule.goal.left l.tuple l.object.0) (filter (λ part. not (is_image l.rule.l l.object.0 part)) (range_with_len 0 l.part))
