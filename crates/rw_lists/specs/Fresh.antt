-- Kept lists: of each goal the ordered list of its matches.
use Rattle.std.specs.Prelude.{◌≡◌, ℕ, List, []}
use Rattle.rw_schema.specs.Signature.{Signature}
use Rattle.rw_spec.specs.Instance.{Instance}
use Rattle.rw_pattern.specs.Matches.{matches}
use Rattle.rw_rule.specs.RuleFaults.{IsGoalOver}
use Rattle.rw_rule.specs.RuleLists.{GoalLists}

-- the goal is over the signature and has no conditions: those are not looked at yet
pub record IsListable (C : Signature) (goal : GoalLists) : Type 0 where
  pub over : IsGoalOver C goal
  pub unconditional : goal.conditions ≡ []

-- the list of a goal without conditions in an instance: all matches of its pattern, in lexicographic order
abbrev pub fresh_list : Signature → Instance → GoalLists → List (List ℕ)
fresh_list C X goal = matches C goal.left goal.monic X
