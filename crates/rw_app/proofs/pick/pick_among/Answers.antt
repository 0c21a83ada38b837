use Rattle.std.proofs.Common.{◌≡◌, ℕ, ◌+◌, Contains, List, [], ◌∷◌, ◌++◌, length, drop, get_or, Some, sym, ap, ◌∙◌, subst, arith}
use Rattle.std.proofs.lemmas.List.Elements.{All-push, All-same, Contains-get_or}
use Rattle.rw_schema.specs.Presentation.{signature_of}
use Rattle.rw_schema.specs.RowLists.{RowLists}
use Rattle.rw_schema.specs.Signature.{Signature}
use Rattle.rw_spec.specs.Instance.{instance_of}
use Rattle.rw_columns.specs.Kept.{lists_of_columns}
use Rattle.rw_pattern.proofs.Over.{size_count}
use Rattle.rw_terms.specs.OpEntries.{entries}
use Rattle.rw_terms.specs.OpTables.{codes_of}
use Rattle.rw_rule.specs.RuleLists.{RuleLists}
use Rattle.rw_rule.specs.declared.refusal.Refusal.{Refusal}
use Rattle.rw_lists.specs.Fresh.{fresh_list}
use Rattle.rw_app.specs.declared.verdict.Verdict.{Verdict}
use Rattle.rw_app.specs.Runs.{IsObstructed, tuples_of}
use Rattle.rw_app.specs.Verdicts.{IsVerdict}
use Rattle.rw_app.proofs.ColumnLists.{next_long}
use Rattle.rw_app.proofs.Obstructed.{refused_known}
use Rattle.rw_app.proofs.Picking.{refused_more, picked_there}
use Rattle.rw_app.proofs.pick.pick_among.Goals as goal

pub try_tuple-requires-clause-tuple : goal.try_tuple-requires-clause-tuple
try_tuple-requires-clause-tuple g c =
    let found : List (List ℕ) = c.args.found.now in
    let tuple : List ℕ = c.tuple-item.result in
    let there : Contains found tuple =
    subst (Contains found) (sym c.tuple-item.is) (Contains-get_or found c.loop-tuple.tuple-index tuple (omega arith)) in
    subst (λ (list : List (List ℕ)). Contains list tuple) c.requires.found there

pub loop-tuple-preserved : goal.loop-tuple-preserved
loop-tuple-preserved g c =
    let C = signature_of c.args.schema.now in
    let codes = codes_of (entries c.args.ops.now) in
    let rule = c.args.rule.now in
    let rows : RowLists = lists_of_columns c.args.columns.now in
    let refused : List (List ℕ × Refusal) = c.loop-tuple.refused.items in
    let tuple : List ℕ = c.tuple-item.result in
    let refusal : Refusal = c.in-Refused.refusal in
    let obstructed : IsObstructed C codes rule rows tuple refusal =
    subst (λ (verdict : Verdict). IsVerdict C codes rule (instance_of C rows) rows.next tuple verdict) c.in-Refused.is c.in_ok-refusal.ensures in
    let items : c.push.new.self.items ≡ refused ++ (tuple, refusal) ∷ [] =
    c.in_ok-push-in-Refused.ensures.items ∙ ap (λ (copy : List ℕ). refused ++ (copy, refusal) ∷ []) c.in_ok-copy-in-Refused.ensures in
    record {
      tuples = ap tuples_of items ∙ refused_more c.args.found.now refused c.loop-tuple.tuple-index tuple refusal c.loop-tuple.invariant.tuples (omega arith) c.tuple-item.is;
      refused = All-same (λ (entry : List ℕ × Refusal). IsObstructed C codes rule rows entry.0 entry.1) c.push.new.self.items (refused ++ (tuple, refusal) ∷ []) items
          (All-push (λ (entry : List ℕ × Refusal). IsObstructed C codes rule rows entry.0 entry.1) refused (tuple, refusal) c.loop-tuple.invariant.refused obstructed);
    }

pub returns-in-Ready-clause-pick : goal.returns-in-Ready-clause-pick
returns-in-Ready-clause-pick g c =
    let C = signature_of c.args.schema.now in
    let codes = codes_of (entries c.args.ops.now) in
    let rule = c.args.rule.now in
    let rows : RowLists = lists_of_columns c.args.columns.now in
    let tuple : List ℕ = c.tuple-item.result in
    let ready : IsVerdict C codes rule (instance_of C rows) rows.next tuple (Verdict.Ready c.in-Ready.change) =
    subst (λ (verdict : Verdict). IsVerdict C codes rule (instance_of C rows) rows.next tuple verdict) c.in-Ready.is c.in_ok-refusal.ensures in
    let there = picked_there c.args.found.now c.loop-tuple.refused.items c.loop-tuple.tuple-index tuple c.loop-tuple.invariant.tuples (omega arith) c.tuple-item.is in
    rw (c.in_ok-tuple-in-Ready.ensures)
    (((drop (c.loop-tuple.tuple-index + 1) c.args.found.now, sym c.requires.found ∙ there), c.loop-tuple.invariant.refused, (_, ready.step)), ready)

-- there is a size for each object of the schema, and a next name
pub returns-in-Ready-clause-known : goal.returns-in-Ready-clause-known
returns-in-Ready-clause-known g c =
    let C : Signature = signature_of c.args.schema.now in
    let rule : RuleLists = c.args.rule.now in
    refused_known c.args.schema.now (codes_of (entries c.args.ops.now)) rule (lists_of_columns c.args.columns.now) c.loop-tuple.refused.items c.arrow_list-arrows.ensures.category
    (size_count C rule.goal.kinds rule.goal.left c.requires.rule.parts.goal.left) (next_long c.args.columns.now ∙ ap (λ (D : Signature). D.objects) c.requires.columns)
    c.loop-tuple.invariant.refused

pub returns-clause-known : goal.returns-clause-known
returns-clause-known g c =
    let C : Signature = signature_of c.args.schema.now in
    let rule : RuleLists = c.args.rule.now in
    refused_known c.args.schema.now (codes_of (entries c.args.ops.now)) rule (lists_of_columns c.args.columns.now) c.loop-tuple.refused.items c.arrow_list-arrows.ensures.category
    (size_count C rule.goal.kinds rule.goal.left c.requires.rule.parts.goal.left) (next_long c.args.columns.now ∙ ap (λ (D : Signature). D.objects) c.requires.columns)
    c.loop-tuple.invariant.refused
