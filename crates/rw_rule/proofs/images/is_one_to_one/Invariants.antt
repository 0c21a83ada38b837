-- All lists pass where those that are left do.
use Rattle.std.proofs.Common.{◌≡◌, drop}
use Rattle.rw_schema.specs.First.{all_in}
use Rattle.rw_rule.specs.Images.{has_distinct_images}
use Rattle.rw_rule.proofs.images.is_one_to_one.Given as goal

abbrev pub invariant-loop-object : goal.invariant-loop-object
invariant-loop-object l =
    all_in (has_distinct_images l.images) 0 l.from.sizes ≡ all_in (has_distinct_images l.images) l.object (drop l.object l.from.sizes)
