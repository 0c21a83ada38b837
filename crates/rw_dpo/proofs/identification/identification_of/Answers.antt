-- A part that is identified is the first, or the first is one of those that are left.
use Rattle.std.proofs.Common.{◌≡◌, ◌∙◌, ℕ, ◌<◌, List, Option, not, refl, sym, ap, arith}
use Rattle.rw_schema.specs.declared.ids.ObjectId.{ObjectId}
use Rattle.std.proofs.lemmas.List.FromFn.{length-range_with_len}
use Rattle.rw_schema.specs.First.{fault_unless}
use Rattle.rw_schema.proofs.Firsts.{first_past}
use Rattle.rw_pattern.specs.PatternLists.{size_of}
use Rattle.rw_redex.specs.Gluing.{identifies}
use Rattle.rw_redex.proofs.Firsts.{answer_here, answer_later}
use Rattle.rw_redex.proofs.Ranges.{range_at}
use Rattle.rw_rule.specs.Images.{parts_of}
use Rattle.rw_rule.specs.RuleLists.{GoalLists, RuleLists}
use Rattle.rw_rule.specs.declared.refusal.Refusal.{Refusal}
use Rattle.rw_rule.specs.declared.refusal.Refusal.TheVariants.{Identification}
use Rattle.rw_dpo.proofs.identification.identification_of.Goals as goal

-- the refusal where the second part is identified with the first
abbrev refusal_at : RuleLists → List ℕ → ObjectId → ℕ → ℕ → ℕ → Option Refusal
refusal_at rule tuple object first place second = fault_unless (not (identifies rule tuple object.0 first second)) (Identification object first second)

pub returns-then-identifies : goal.returns-then-identifies
returns-then-identifies c =
    let rule : RuleLists = c.args.rule.now in
    let second : ℕ = c.loop-second.second in
    let size : c.size-second-end.result ≡ size_of rule.goal.left c.args.object.0 =
    c.size-second-end.ensures ∙ ap (λ (goal : GoalLists). size_of goal.left c.args.object.0) c.goal.ensures in
    let below : second < size_of rule.goal.left c.args.object.0 = rw (← size) c.loop-second-test.true in
    sym (c.loop-second.invariant
    ∙ answer_here (refusal_at rule c.args.tuple.now c.args.object c.args.first) (parts_of rule.goal.left c.args.object.0) second second
    (Identification c.args.object c.args.first second) (range_at (size_of rule.goal.left c.args.object.0) second below) (rw (← c.if-identifies.ensures) refl))

pub loop-second-preserved : goal.loop-second-preserved
loop-second-preserved c =
    let rule : RuleLists = c.args.rule.now in
    let second : ℕ = c.loop-second.second in
    let size : c.size-second-end.result ≡ size_of rule.goal.left c.args.object.0 =
    c.size-second-end.ensures ∙ ap (λ (goal : GoalLists). size_of goal.left c.args.object.0) c.goal.ensures in
    let below : second < size_of rule.goal.left c.args.object.0 = rw (← size) c.loop-second-test.true in
    c.loop-second.invariant
    ∙ answer_later (refusal_at rule c.args.tuple.now c.args.object c.args.first) (parts_of rule.goal.left c.args.object.0) second second
    (range_at (size_of rule.goal.left c.args.object.0) second below) (rw (← c.if-identifies.ensures) refl)

pub returns : goal.returns
returns c =
    let rule : RuleLists = c.args.rule.now in
    let size : c.size-second-end.result ≡ size_of rule.goal.left c.args.object.0 =
    c.size-second-end.ensures ∙ ap (λ (goal : GoalLists). size_of goal.left c.args.object.0) c.goal.ensures in
    sym (c.loop-second.invariant
    ∙ first_past (refusal_at rule c.args.tuple.now c.args.object c.args.first) c.loop-second.second c.loop-second.second (parts_of rule.goal.left c.args.object.0)
    (omega (arith, size, length-range_with_len 0 (size_of rule.goal.left c.args.object.0))))
