-- The new parts so far are there.
use Rattle.std.proofs.Common.{◌≡◌, not, filter}
use Rattle.std.specs.List.{range_with_len}
use Rattle.rw_rule.specs.Images.{is_image}
use Rattle.rw_redex.proofs.growth.new_parts.Given as goal

abbrev pub invariant-loop-part : goal.invariant-loop-part
invariant-loop-part l = l.parts.items ≡ filter (λ part. not (is_image l.rule.r l.object.0 part)) (range_with_len 0 l.part)
