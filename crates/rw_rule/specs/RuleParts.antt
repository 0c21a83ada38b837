-- The lists of a rule's parts.
use Rattle.std.specs.Prelude.{map}
use Rattle.rw_rule.specs.declared.condition.Condition.{Condition}
use Rattle.rw_rule.specs.declared.goal.Goal.{Goal}
use Rattle.rw_rule.specs.declared.parts.RuleParts.{RuleParts}
use Rattle.rw_rule.specs.declared.watch.Watch.{Watch}
use Rattle.rw_rule.specs.RuleLists.{ConditionLists, GoalLists, RuleLists, WatchLists}

-- the lists of a condition
abbrev pub condition_of_parts : Condition → ConditionLists
condition_of_parts condition = record {
  positive = condition.positive;
  pattern = condition.pattern;
  images = condition.map;
  monic = condition.monic.items;
}

-- the lists of what is looked for
abbrev pub goal_of_parts : Goal → GoalLists
goal_of_parts goal = record {
  left = goal.left;
  monic = goal.monic.items;
  conditions = map condition_of_parts goal.conditions.items;
  kinds = goal.kinds.items;
}

-- the lists of all parts
abbrev pub rule_of_parts : RuleParts → RuleLists
rule_of_parts parts = record {
  name = parts.name;
  kind = parts.kind;
  goal = goal_of_parts parts.goal;
  keep = parts.keep;
  right = parts.right;
  sets = parts.sets.items;
  l = parts.l;
  r = parts.r;
}

-- the lists of a watch
abbrev pub lists_of_watch : Watch → WatchLists
lists_of_watch watch = record { name = watch.name; goal = goal_of_parts watch.goal }
