-- The list of a goal, with its matches and their extensions beside it.
use Rattle.std.specs.Prelude.{ℕ, List, map}
use Rattle.rw_schema.specs.Signature.{Signature}
use Rattle.rw_spec.specs.Instance.{Instance}
use Rattle.rw_pattern.specs.Matches.{matches}
use Rattle.rw_rule.specs.RuleLists.{ConditionLists, GoalLists}
use Rattle.rw_kept.specs.Conditions.{extensions, fresh_list}

pub record KeptLists : Type 0 where
  -- the admissible matches
  pub list : List (List ℕ)
  -- all matches of the left side
  pub matches : List (List ℕ)
  -- of each condition and each match its extensions
  pub extensions : List (List (List (List ℕ)))

-- of each of the matches its extensions along the condition's map
abbrev pub extensions_of : Signature → Instance → GoalLists → List (List ℕ) → ConditionLists → List (List (List ℕ))
extensions_of C X goal matches condition = map (extensions C goal.left condition X) matches

-- what is kept of a goal in an instance, made afresh
abbrev pub fresh_kept : Signature → Instance → GoalLists → KeptLists
fresh_kept C X goal = record {
  list = fresh_list C X goal;
  matches = matches C goal.left goal.monic X;
  extensions = map (extensions_of C X goal (matches C goal.left goal.monic X)) goal.conditions;
}
