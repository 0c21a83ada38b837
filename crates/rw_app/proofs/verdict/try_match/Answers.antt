-- Where parts are identified or an arrow dangles, this is what obstructs the match.
use Rattle.std.proofs.Common.{◌≡◌, List, length, sym, subst}
use Rattle.rw_schema.specs.Presentation.{signature_of}
use Rattle.rw_schema.specs.Signature.{Signature}
use Rattle.rw_spec.specs.Instance.{Instance, IsInstance}
use Rattle.rw_terms.specs.OpEntries.{entries}
use Rattle.rw_terms.specs.OpTables.{OpEntry, codes_of}
use Rattle.rw_rule.specs.RuleLists.{RuleLists}
use Rattle.rw_local.specs.OneVerdict.{IsHost}
use Rattle.rw_local.proofs.OneVerdict.{one_verdict}
use Rattle.rw_app.proofs.Verdicts.{counted, unglued}
use Rattle.rw_app.proofs.verdict.try_match.Goals as goal

pub returns-in-Some : goal.returns-in-Some
returns-in-Some g c =
    let C : Signature = signature_of c.args.schema.now in
    let X : Instance = g.P.Probe.instance c.args.probe.now in
    let rule : RuleLists = c.args.rule.now in
    let ops : List OpEntry = entries c.args.ops.now in
    let next = c.args.next.now in
    let host : IsHost C X next = record {
      instance = subst (λ (D : Signature). IsInstance D X) c.requires.probe c.known.ensures.instance;
      ascends = λ object known. c.known.ensures.ascend object;
      below = c.requires.below;
    } in
    let verdict =
    one_verdict C c.arrow_list-arrows.ensures.category (codes_of ops) rule (counted C ops rule c.requires.rule) c.requires.kind
    X next c.args.tuple.now host c.requires.tuple in
    unglued C (codes_of ops) rule c.args.tuple.now X next verdict c.in-Some.refusal (sym c.in-Some.ensures.first)
