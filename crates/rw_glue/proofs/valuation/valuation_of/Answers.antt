-- The value of one variable more.
use Rattle.std.proofs.Common.{◌≡◌, ◌∙◌, sym, ap, subst}
use Rattle.std.specs.Prelude.{pos, unwrap_or}
use Rattle.rw_schema.specs.declared.atom.Atom.TheVariants.{Int}
use Rattle.rw_pattern.specs.Matches.{value_of}
use Rattle.rw_redex.proofs.Ranges.{map_more}
use Rattle.rw_pattern.specs.PatternLists.{PatternLists}
use Rattle.rw_rule.specs.declared.goal.Goal.{Goal}
use Rattle.rw_rule.specs.RuleLists.{GoalLists}
use Rattle.rw_rule.specs.RuleParts.{goal_of_parts}
use Rattle.rw_glue.specs.inner.Sides.{HasCells}
use Rattle.rw_glue.proofs.Matched.{has_cells}
use Rattle.rw_glue.proofs.valuation.valuation_of.Goals as goal

-- the left pattern of the goal that was read
left_is : (goal : Goal) (lists : GoalLists) → goal_of_parts goal ≡ lists → goal.left ≡ lists.left
left_is goal lists is = ap (λ (each : GoalLists). each.left) is

pub value_of-requires : goal.value_of-requires
value_of-requires g c =
    subst (λ (left : PatternLists). HasCells (g.P.Probe.signature c.args.probe.now) (g.P.Probe.instance c.args.probe.now) left c.args.tuple.now)
    (sym (left_is c.goal-goal.result.now c.args.rule.now.goal c.goal-goal.ensures))
    (has_cells (g.P.Probe.signature c.args.probe.now) c.requires.rule.0 c.args.rule.now c.args.tuple.now (g.P.Probe.instance c.args.probe.now) c.requires.rule.1 c.requires.tuple)

pub loop-variable-preserved : goal.loop-variable-preserved
loop-variable-preserved g c =
    c.in_ok-push.ensures.items
    ∙ map_more (λ variable. unwrap_or (value_of c.args.rule.now.goal.left (g.P.Probe.instance c.args.probe.now) c.args.tuple.now variable) (Int (pos 0))) c.loop-variable.variable
    c.loop-variable.values.items c.in_ok-value_of.field-0 c.loop-variable.invariant
    (c.in_ok-value_of.ensures
    ∙ ap (λ (left : PatternLists). unwrap_or (value_of left (g.P.Probe.instance c.args.probe.now) c.args.tuple.now c.loop-variable.variable) (Int (pos 0)))
    (left_is c.goal-goal.result.now c.args.rule.now.goal c.goal-goal.ensures))
