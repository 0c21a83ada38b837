-- What is glued is the step, or there are too many names, or atoms clash.
use Rattle.std.proofs.Common.{◌≡◌, ◌∙◌, Err, Some, ap, subst}
use Rattle.rw_schema.specs.Presentation.{signature_of}
use Rattle.rw_schema.specs.Signature.{Signature}
use Rattle.rw_spec.specs.Instance.{Instance}
use Rattle.rw_rule.specs.RuleLists.{RuleLists}
use Rattle.rw_rule.specs.declared.refusal.Refusal.{Refusal}
use Rattle.rw_rule.specs.declared.refusal.Refusal.TheVariants.{TooLarge}
use Rattle.rw_redex.specs.Obstructions.{too_large}
use Rattle.rw_glue.specs.Glues.{Glues}
use Rattle.rw_terms.specs.OpEntries.{entries}
use Rattle.rw_terms.specs.OpTables.{codes_of}
use Rattle.rw_app.proofs.Verdicts.{counted, overflowing, ready, unobstructed, values_long}
use Rattle.rw_app.proofs.verdict.try_values.Goals as goal

pub glue-requires-clause-values : goal.glue-requires-clause-values
glue-requires-clause-values g c =
    values_long (codes_of (entries c.args._ops.now)) c.args.rule.now c.args.tuple.now (g.P.Probe.instance c.args.probe.now) c.args.values.now c.requires.values

pub returns-in-Ok : goal.returns-in-Ok
returns-in-Ok g c =
    let codes = codes_of (entries c.args._ops.now) in
    let glued = c.in-Ok.ensures codes (counted (signature_of c.args.schema.now) (entries c.args._ops.now) c.args.rule.now c.requires.rule) c.requires.values in
    ready (signature_of c.args.schema.now) codes c.args.rule.now c.args.tuple.now (g.P.Probe.instance c.args.probe.now) c.args.context.now.next c.requires.can.apart
    c.requires.can.undangling c.arrow_list-arrows.ensures.category c.requires.can.matched c.requires.valued glued.0 c.in-Ok.change glued.1

pub returns-in-Err-TooLarge : goal.returns-in-Err-TooLarge
returns-in-Err-TooLarge g c =
    let C : Signature = signature_of c.args.schema.now in
    let codes = codes_of (entries c.args._ops.now) in
    let rule : RuleLists = c.args.rule.now in
    let X : Instance = g.P.Probe.instance c.args.probe.now in
    let next = c.args.context.now.next in
    let refusal : Refusal = TooLarge c.in-Err-TooLarge.object in
    let large : too_large rule next ≡ Some refusal =
    subst (Glues C codes rule c.args.tuple.now X next) (c.in-Err-TooLarge.is ∙ ap Err c.in-Err-TooLarge.field-0-is) (c.glue.ensures codes (counted C (entries c.args._ops.now) rule c.requires.rule) c.requires.values) in
    overflowing C codes rule c.args.tuple.now X next c.requires.can.apart c.requires.can.undangling refusal c.requires.valued large

pub returns-in-Err-Clash : goal.returns-in-Err-Clash
returns-in-Err-Clash g c =
    let C : Signature = signature_of c.args.schema.now in
    let codes = codes_of (entries c.args._ops.now) in
    let rule : RuleLists = c.args.rule.now in
    let X : Instance = g.P.Probe.instance c.args.probe.now in
    let next = c.args.context.now.next in
    let clashes = subst (Glues C codes rule c.args.tuple.now X next) (c.in-Err-Clash.is ∙ ap Err c.in-Err-Clash.field-0-is) (c.glue.ensures codes (counted C (entries c.args._ops.now) rule c.requires.rule) c.requires.values) in
    (unobstructed C codes rule c.args.tuple.now X next c.requires.can.apart c.requires.can.undangling c.requires.valued clashes.0, clashes.1)
