-- The name of a part goes behind the others.
use Rattle.std.proofs.Common.{◌∙◌}
use Rattle.rw_redex.proofs.Ranges.{map_more}
use Rattle.rw_spo.specs.inner.Staying.{name_staying}
use Rattle.rw_spo.proofs.staying.names_staying.Goals as goal

pub loop-part-preserved : goal.loop-part-preserved
loop-part-preserved c =
    c.in_ok-push.ensures.items
    ∙ map_more (name_staying c.args.removed.now c.args.rule.now c.args.tuple.now c.args.object.0) c.loop-part.part c.loop-part.names.items
    c.name_staying.result c.loop-part.invariant c.name_staying.ensures
