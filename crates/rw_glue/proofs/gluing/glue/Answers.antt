-- What is glued is the step.
use Rattle.std.proofs.Common.{subst}
use Rattle.rw_schema.specs.Presentation.{signature_of}
use Rattle.rw_delta.specs.ContextLists.{ContextLists}
use Rattle.rw_redex.proofs.RuleKnown.{rule_known}
use Rattle.rw_rule.specs.RuleLists.{RuleLists}
use Rattle.rw_glue.specs.inner.Glued.{IsGlued}
use Rattle.rw_glue.proofs.CanTouch.{can_touch}
use Rattle.rw_glue.proofs.StepGlued.{glues}
use Rattle.rw_glue.proofs.gluing.glue.Goals as goal

pub object_too_large-requires-clause-rule : goal.object_too_large-requires-clause-rule
object_too_large-requires-clause-rule g c =
    (rule_known (signature_of c.args.schema.now) c.requires.given.operations c.args.rule.now c.requires.given.over).span

pub sides_of-requires-clause-touch : goal.sides_of-requires-clause-touch
sides_of-requires-clause-touch g c =
    can_touch (signature_of c.args.schema.now) c.args.rule.now c.args.tuple.now (g.P.Probe.instance c.args.probe.now) c.args.context.now c.known.ensures

pub returns : goal.returns
returns g c = λ codes over are.
    let C = signature_of c.args.schema.now in
    let X = g.P.Probe.instance c.args.probe.now in
    let sides = c.in_ok-sides.sides in
    let glued : IsGlued C X c.args.rule.now c.args.context.now sides.images sides.left sides.right c.glued.result =
    subst (λ (rule : RuleLists). IsGlued C X rule c.args.context.now sides.images sides.left sides.right c.glued.result) c.in_ok-sides.ensures.given.0
    (subst (λ (context : ContextLists). IsGlued C X sides.rule.now context sides.images sides.left sides.right c.glued.result) c.in_ok-sides.ensures.given.2 c.glued.ensures) in
    glues C codes c.args.rule.now c.args.tuple.now X c.args.context.now c.args.values.now sides.images sides.left sides.right c.known.ensures c.in_ok-sides.ensures.sides
    over are c.glued.result glued
