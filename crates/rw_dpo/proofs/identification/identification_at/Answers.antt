-- A part that is identified with a later one is the first, or the first is one of those that are left.
use Rattle.std.proofs.Common.{◌≡◌, ◌∙◌, ℕ, ◌<◌, List, Option, sym, ap, arith}
use Rattle.std.proofs.lemmas.List.FromFn.{length-range_with_len}
use Rattle.rw_schema.proofs.Firsts.{first_past}
use Rattle.rw_pattern.specs.PatternLists.{size_of}
use Rattle.rw_redex.specs.Gluing.{identification_of}
use Rattle.rw_redex.proofs.Firsts.{answer_here, answer_later}
use Rattle.rw_redex.proofs.Ranges.{range_at}
use Rattle.rw_rule.specs.Images.{parts_of}
use Rattle.rw_rule.specs.RuleLists.{GoalLists, RuleLists}
use Rattle.rw_rule.specs.declared.refusal.Refusal.{Refusal}
use Rattle.rw_dpo.proofs.identification.identification_at.Goals as goal

-- the refusal at a part
abbrev refusal_at : RuleLists → List ℕ → ℕ → ℕ → ℕ → Option Refusal
refusal_at rule tuple object place first = identification_of rule tuple object first

pub returns-in-Some : goal.returns-in-Some
returns-in-Some c =
    let rule : RuleLists = c.args.rule.now in
    let first : ℕ = c.loop-first.first in
    let size : c.size-first-end.result ≡ size_of rule.goal.left c.args.object.0 =
    c.size-first-end.ensures ∙ ap (λ (goal : GoalLists). size_of goal.left c.args.object.0) c.goal.ensures in
    let below : first < size_of rule.goal.left c.args.object.0 = rw (← size) c.loop-first-test.true in
    sym (c.loop-first.invariant
    ∙ answer_here (refusal_at rule c.args.tuple.now c.args.object.0) (parts_of rule.goal.left c.args.object.0) first first
    c.in-Some.refusal (range_at (size_of rule.goal.left c.args.object.0) first below) (sym c.in-Some.ensures))

pub loop-first-preserved : goal.loop-first-preserved
loop-first-preserved c =
    let rule : RuleLists = c.args.rule.now in
    let first : ℕ = c.loop-first.first in
    let size : c.size-first-end.result ≡ size_of rule.goal.left c.args.object.0 =
    c.size-first-end.ensures ∙ ap (λ (goal : GoalLists). size_of goal.left c.args.object.0) c.goal.ensures in
    let below : first < size_of rule.goal.left c.args.object.0 = rw (← size) c.loop-first-test.true in
    c.loop-first.invariant
    ∙ answer_later (refusal_at rule c.args.tuple.now c.args.object.0) (parts_of rule.goal.left c.args.object.0) first first
    (range_at (size_of rule.goal.left c.args.object.0) first below) (sym c.identification_of.ensures ∙ c.in_default.is)

pub returns : goal.returns
returns c =
    let rule : RuleLists = c.args.rule.now in
    let size : c.size-first-end.result ≡ size_of rule.goal.left c.args.object.0 =
    c.size-first-end.ensures ∙ ap (λ (goal : GoalLists). size_of goal.left c.args.object.0) c.goal.ensures in
    sym (c.loop-first.invariant
    ∙ first_past (refusal_at rule c.args.tuple.now c.args.object.0) c.loop-first.first c.loop-first.first (parts_of rule.goal.left c.args.object.0)
    (omega (arith, size, length-range_with_len 0 (size_of rule.goal.left c.args.object.0))))
