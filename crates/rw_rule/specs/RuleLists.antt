-- A rewriting rule as contracts see it.
use Rattle.std.specs.Prelude.{ℕ, List, Bool}
use Rattle.rw_schema.specs.declared.atom.Kind.{Kind}
use Rattle.rw_pattern.specs.PatternLists.{PatternLists}
use Rattle.rw_rule.specs.declared.kind.RuleKind.{RuleKind}
use Rattle.rw_rule.specs.declared.set.SetCell.{SetCell}

-- a condition on matches: a pattern, the images of the left pattern's parts in it, and of each object whether two of its
-- parts must have two images
pub record ConditionLists : Type 0 where
  pub positive : Bool
  pub pattern : PatternLists
  pub images : List (List ℕ)
  pub monic : List Bool

-- the pattern that is matched, of each object whether two of its parts must have two images, the conditions, and the kinds
-- of the variables
pub record GoalLists : Type 0 where
  pub left : PatternLists
  pub monic : List Bool
  pub conditions : List ConditionLists
  pub kinds : List Kind

-- a span of patterns, left from keep to right, with a name and a kind, and the cells of right that are set
pub record RuleLists : Type 0 where
  pub name : List ℕ
  pub kind : RuleKind
  pub goal : GoalLists
  pub keep : PatternLists
  pub right : PatternLists
  pub sets : List SetCell
  pub l : List (List ℕ)
  pub r : List (List ℕ)

-- a goal with a name
pub record WatchLists : Type 0 where
  pub name : List ℕ
  pub goal : GoalLists
