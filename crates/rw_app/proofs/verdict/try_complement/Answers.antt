-- Where the gluing condition holds there is a context, and the sets can be evaluated.
use Rattle.std.proofs.Common.{◌≡◌, ℕ, IfOk, List, length, None, slice_index, sym, subst}
use Rattle.rw_schema.specs.Presentation.{signature_of}
use Rattle.rw_schema.specs.Signature.{Signature}
use Rattle.rw_schema.proofs.Firsts.{or_else_none}
use Rattle.rw_spec.specs.Instance.{Instance, IsInstance}
use Rattle.rw_terms.specs.OpEntries.{entries}
use Rattle.rw_terms.specs.OpTables.{OpEntry, codes_of}
use Rattle.rw_rule.specs.RuleLists.{RuleLists}
use Rattle.rw_delta.specs.ContextLists.{ContextLists}
use Rattle.rw_dpo.specs.Contexts.{IsContextOf}
use Rattle.rw_redex.specs.Gluing.{identification}
use Rattle.rw_redex.specs.Obstructions.{dangling}
use Rattle.rw_redex.proofs.MatchLaws.{dpo_injective}
use Rattle.rw_redex.proofs.RuleKnown.{rule_known}
use Rattle.rw_redex.proofs.SetKinds.{met_by_match, sets_evaluable}
use Rattle.rw_app.specs.Verdicts.{IsVerdict}
use Rattle.rw_app.proofs.Verdicts.{counted}
use Rattle.rw_app.proofs.verdict.try_complement.Goals as goal

pub try_context-requires-clause-can : goal.try_context-requires-clause-can
try_context-requires-clause-can g c =
    let C : Signature = signature_of c.args.schema.now in
    let X : Instance = g.P.Probe.instance c.args.probe.now in
    let rule : RuleLists = c.args.rule.now in
    let tuple = c.args.tuple.now in
    let context : ContextLists = c.in_ok-context.context in
    let lists = c.in_ok-context.ensures.lists in
    let free = or_else_none (identification rule tuple) (dangling C rule tuple X) c.requires.gluing in
    record {
      operations = length (entries c.args.ops.now);
      over = c.requires.rule;
      split = dpo_injective rule (rule_known C (length (entries c.args.ops.now)) rule c.requires.rule).apart c.requires.kind;
      matched = c.requires.tuple;
      apart = free.0;
      undangling = free.1;
      is_context = subst (λ (given : List ℕ). IsContextOf C rule tuple X given context) (sym lists.next) lists;
      counted = rw lists.next c.requires.counted;
      below = rw lists.next c.requires.below;
    }

pub try_context-requires-clause-evaluable : goal.try_context-requires-clause-evaluable
try_context-requires-clause-evaluable g c =
    let C : Signature = signature_of c.args.schema.now in
    let X : Instance = g.P.Probe.instance c.args.probe.now in
    let rule : RuleLists = c.args.rule.now in
    let tuple = c.args.tuple.now in
    let ops : List OpEntry = entries c.args.ops.now in
    let host : IsInstance C X = subst (λ (D : Signature). IsInstance D X) c.requires.probe c.known.ensures.instance in
    let met = met_by_match C rule tuple X c.arrow_list-arrows.ensures.category host c.requires.rule.parts.goal.left c.requires.tuple in
    rw c.in_ok-valuation.ensures
    (sets_evaluable C (codes_of ops) rule tuple X (rule_known C (length (codes_of ops)) rule (counted C ops rule c.requires.rule)) met)

pub returns : goal.returns
returns g c =
    let C : Signature = signature_of c.args.schema.now in
    let X : Instance = g.P.Probe.instance c.args.probe.now in
    subst (λ (given : List ℕ). IfOk c.try_context.result (IsVerdict C (codes_of (entries c.args.ops.now)) c.args.rule.now X given c.args.tuple.now))
    c.in_ok-context.ensures.lists.next c.try_context.ensures
