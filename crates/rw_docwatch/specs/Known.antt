-- What is known of watches that are read.
use Rattle.std.specs.Prelude.{◌≡◌, []}
use Rattle.rw_schema.specs.Signature.{Signature}
use Rattle.rw_rule.specs.RuleFaults.{IsGoalOver}
use Rattle.rw_rule.specs.RuleLists.{WatchLists}

-- the goal of a watch is over the signature and has no conditions
pub record IsWatchRead (C : Signature) (watch : WatchLists) : Type 0 where
  pub over : IsGoalOver C watch.goal
  pub free : watch.goal.conditions ≡ []
