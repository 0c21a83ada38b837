-- The name of a part goes behind the others.
use Rattle.std.proofs.Common.{Some, ap, ◌∙◌}
use Rattle.rw_redex.proofs.Ranges.{map_more}
use Rattle.rw_dpo.specs.Contexts.{name_of_kept}
use Rattle.rw_dpo.proofs.kept.kept_names.Goals as goal

pub loop-part-preserved : goal.loop-part-preserved
loop-part-preserved c =
    c.in_ok-push.ensures.items
    ∙ map_more (λ part. Some (name_of_kept c.args.rule.now c.args.tuple.now c.args.object.0 part)) c.loop-part.part c.loop-part.names.items
    (Some c.name_of_kept.result) c.loop-part.invariant (ap Some c.name_of_kept.ensures)
