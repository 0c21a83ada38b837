-- A part without a value is the first, or the first is one of those that are left.
use Rattle.std.proofs.Common.{◌≡◌, ℕ, Option, List, sym, ap, ◌∙◌}
use Rattle.std.proofs.lemmas.List.FromFn.{length-range_with_len}
use Rattle.rw_schema.specs.Presentation.{signature_of}
use Rattle.rw_schema.specs.Signature.{Signature}
use Rattle.rw_schema.proofs.Firsts.{first_past}
use Rattle.rw_spec.specs.Instance.{Instance}
use Rattle.rw_pattern.specs.PatternLists.{PatternLists, size_of}
use Rattle.rw_terms.specs.declared.code.OpCode.{OpCode}
use Rattle.rw_rule.specs.Images.{parts_of}
use Rattle.rw_rule.specs.RuleLists.{RuleLists}
use Rattle.rw_rule.specs.declared.refusal.Refusal.{Refusal}
use Rattle.rw_redex.specs.SetValues.{no_value_on}
use Rattle.rw_redex.proofs.Firsts.{answer_here, answer_later}
use Rattle.rw_redex.proofs.Ranges.{range_at}
use Rattle.rw_redex.proofs.values.without_value_in.Goals as goal

-- the refusal at a part
abbrev refusal_at : Signature → List OpCode → RuleLists → List ℕ → Instance → ℕ → ℕ → ℕ → Option Refusal
refusal_at C codes rule tuple X object place part = no_value_on C codes rule tuple X object part

pub returns-in-Some : goal.returns-in-Some
returns-in-Some c = λ codes tuple X are.
    let rule : RuleLists = c.args.rule.now in
    let object : ℕ = c.args.object.0 in
    let part : ℕ = c.loop-part.part in
    let size : c.size-part-end.result ≡ size_of rule.right object =
    c.size-part-end.ensures ∙ ap (λ (right : PatternLists). size_of right object) c.right.ensures in
    sym (c.loop-part.invariant codes tuple X are
    ∙ answer_here (refusal_at (signature_of c.args.schema.now) codes rule tuple X object) (parts_of rule.right object) part part c.in-Some.refusal
    (range_at (size_of rule.right object) part (rw (← size) c.loop-part-test.true)) (sym (c.in-Some.ensures codes tuple X are)))

pub loop-part-preserved : goal.loop-part-preserved
loop-part-preserved c = λ codes tuple X are.
    let rule : RuleLists = c.args.rule.now in
    let object : ℕ = c.args.object.0 in
    let part : ℕ = c.loop-part.part in
    let size : c.size-part-end.result ≡ size_of rule.right object =
    c.size-part-end.ensures ∙ ap (λ (right : PatternLists). size_of right object) c.right.ensures in
    c.loop-part.invariant codes tuple X are
    ∙ answer_later (refusal_at (signature_of c.args.schema.now) codes rule tuple X object) (parts_of rule.right object) part part
    (range_at (size_of rule.right object) part (rw (← size) c.loop-part-test.true)) (sym (c.in_default.ensures codes tuple X are))

pub returns : goal.returns
returns c = λ codes tuple X are.
    let rule : RuleLists = c.args.rule.now in
    let object : ℕ = c.args.object.0 in
    let part : ℕ = c.loop-part.part in
    let size : c.size-part-end.result ≡ size_of rule.right object =
    c.size-part-end.ensures ∙ ap (λ (right : PatternLists). size_of right object) c.right.ensures in
    sym (c.loop-part.invariant codes tuple X are
    ∙ first_past (refusal_at (signature_of c.args.schema.now) codes rule tuple X object) part part (parts_of rule.right object)
    (rw (length-range_with_len 0 (size_of rule.right object), ← size) c.loop-part-test.false))
