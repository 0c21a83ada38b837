-- A part is removed and has the name, or no part up to it does.
use Rattle.std.proofs.Common.{◌≡◌, ◌==◌, ℕ, Bool, not, ◌&&◌, ◌∙◌, ap, sym}
use Rattle.rw_pattern.specs.PatternLists.{size_of, map_of_tuple}
use Rattle.rw_rule.specs.RuleLists.{GoalLists, RuleLists}
use Rattle.rw_rule.specs.Images.{is_image}
use Rattle.rw_redex.proofs.Parts.{some_passes}
use Rattle.rw_redex.proofs.Ranges.{none_more}
use Rattle.rw_redex.proofs.matched.is_removed.Goals as goal

pub returns-then-is_removed_at : goal.returns-then-is_removed_at
returns-then-is_removed_at c =
    let rule : RuleLists = c.args.rule.now in
    let object : ℕ = c.args.object.0 in
    let test : ℕ → Bool = λ part. not (is_image rule.l object part) && map_of_tuple rule.goal.left c.args.tuple.now object part == c.args.name in
    let size : c.size-part-end.result ≡ size_of rule.goal.left object =
    c.size-part-end.ensures ∙ ap (λ (goal : GoalLists). size_of goal.left object) c.goal.ensures in
    sym (some_passes rule.goal.left object test c.loop-part.part (rw (← size) c.loop-part-test.true) (sym c.if-is_removed_at.ensures))

pub loop-part-preserved : goal.loop-part-preserved
loop-part-preserved c =
    let rule : RuleLists = c.args.rule.now in
    let object : ℕ = c.args.object.0 in
    let test : ℕ → Bool = λ part. not (is_image rule.l object part) && map_of_tuple rule.goal.left c.args.tuple.now object part == c.args.name in
    none_more test c.loop-part.part c.loop-part.invariant (sym c.if-is_removed_at.ensures)
