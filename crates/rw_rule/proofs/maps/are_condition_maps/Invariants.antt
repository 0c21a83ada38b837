-- All conditions pass where those that are left do.
use Rattle.std.proofs.Common.{◌≡◌, drop}
use Rattle.std.specs.List.{list_all}
use Rattle.rw_schema.specs.Presentation.{signature_of}
use Rattle.rw_rule.specs.declared.condition.Condition.{Condition}
use Rattle.rw_rule.specs.RuleFaults.{is_map}
use Rattle.rw_rule.specs.RuleLists.{ConditionLists}
use Rattle.rw_rule.specs.RuleParts.{goal_of_parts}
use Rattle.rw_rule.proofs.maps.are_condition_maps.Given as goal

abbrev pub invariant-loop-condition : goal.invariant-loop-condition
invariant-loop-condition l =
    let C = signature_of l.schema in
    let lists = goal_of_parts l.goal in
    list_all (λ (condition : ConditionLists). is_map C lists.left condition.pattern condition.images) lists.conditions
    ≡ list_all (λ (condition : Condition). is_map C lists.left condition.pattern condition.map) (drop l.condition-index l.goal.conditions.items)
