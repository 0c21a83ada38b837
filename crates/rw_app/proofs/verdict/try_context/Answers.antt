-- The sets have values, or one of them obstructs the match.
use Rattle.std.proofs.Common.{◌≡◌, ◌∙◌, Err, Some, ap, subst}
use Rattle.rw_schema.specs.Presentation.{signature_of}
use Rattle.rw_schema.specs.Signature.{Signature}
use Rattle.rw_spec.specs.Instance.{Instance}
use Rattle.rw_rule.specs.RuleLists.{RuleLists}
use Rattle.rw_rule.specs.declared.refusal.Refusal.{Refusal}
use Rattle.rw_rule.specs.declared.refusal.Refusal.TheVariants.{NoValue}
use Rattle.rw_redex.specs.SetValues.{no_value}
use Rattle.rw_terms.specs.OpEntries.{entries}
use Rattle.rw_terms.specs.OpTables.{codes_of}
use Rattle.rw_glue.specs.Values.{Evaluates}
use Rattle.rw_app.proofs.Verdicts.{valueless}
use Rattle.rw_app.proofs.verdict.try_context.Goals as goal

pub try_values-requires-clause-values : goal.try_values-requires-clause-values
try_values-requires-clause-values g c = (c.in-Ok.ensures c.args.tuple.now (g.P.Probe.instance c.args.probe.now) c.requires.valuation).0

pub try_values-requires-clause-valued : goal.try_values-requires-clause-valued
try_values-requires-clause-valued g c = (c.in-Ok.ensures c.args.tuple.now (g.P.Probe.instance c.args.probe.now) c.requires.valuation).1

pub returns-in-Err-NoValue : goal.returns-in-Err-NoValue
returns-in-Err-NoValue g c =
    let C : Signature = signature_of c.args.schema.now in
    let codes = codes_of (entries c.args.ops.now) in
    let rule : RuleLists = c.args.rule.now in
    let X : Instance = g.P.Probe.instance c.args.probe.now in
    let refusal : Refusal = NoValue c.in-Err-NoValue.right_part c.in-Err-NoValue.attr in
    let lacks : no_value C codes rule c.args.tuple.now X ≡ Some refusal =
    subst (Evaluates C codes rule c.args.tuple.now X) (c.in-Err-NoValue.is ∙ ap Err c.in-Err-NoValue.field-0-is) (c.values.ensures c.args.tuple.now X c.requires.valuation) in
    rw (c.in-Err-NoValue.right_part-is, c.in-Err-NoValue.attr-is)
    (valueless C codes rule c.args.tuple.now X c.args.context.now.next c.requires.can.apart c.requires.can.undangling refusal lacks)
