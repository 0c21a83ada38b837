-- The mark of a part goes behind the others.
use Rattle.std.proofs.Common.{◌∙◌}
use Rattle.rw_redex.proofs.Ranges.{map_more}
use Rattle.rw_spo.specs.inner.Staying.{stays_right}
use Rattle.rw_spo.proofs.staying.marks_staying.Goals as goal

pub loop-part-preserved : goal.loop-part-preserved
loop-part-preserved c =
    c.in_ok-push.ensures.items
    ∙ map_more (stays_right c.args.removed.now c.args.attribute c.args.object.0) c.loop-part.part c.loop-part.marks.items
    c.stays_right.result c.loop-part.invariant c.stays_right.ensures
