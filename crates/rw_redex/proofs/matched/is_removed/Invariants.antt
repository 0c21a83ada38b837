-- No part so far is removed and has the name.
use Rattle.std.proofs.Common.{◌≡◌, ◌==◌, not, ◌&&◌, false}
use Rattle.std.specs.List.{list_any, range_with_len}
use Rattle.rw_pattern.specs.PatternLists.{map_of_tuple}
use Rattle.rw_rule.specs.Images.{is_image}
use Rattle.rw_redex.proofs.matched.is_removed.Given as goal

abbrev pub invariant-loop-part : goal.invariant-loop-part
invariant-loop-part l =
    list_any (λ part. not (is_image l.rule.l l.object.0 part) && map_of_tuple l.rule.goal.left l.tuple l.object.0 part == l.name) (range_with_len 0 l.part) ≡ false
