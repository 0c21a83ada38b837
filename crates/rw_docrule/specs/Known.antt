-- What is known of rules that are read.
use Rattle.std.specs.Prelude.{◌≡◌, ◌<◌, ◌≤◌, ℕ, false, length, [], None}
use Rattle.std.specs.List.{All}
use Rattle.rw_schema.specs.Signature.{Signature}
use Rattle.rw_pattern.specs.PatternFaults.{IsPatternOver}
use Rattle.rw_rule.specs.declared.set.SetCell.{SetCell}
use Rattle.rw_rule.specs.RuleFaults.{AreOver, rule_fault}
use Rattle.rw_rule.specs.RuleLists.{RuleLists}
use Rattle.rw_docrule.specs.Rules.{Sides}

-- the patterns of a rule are over the signature, the kept and the right one have no entries, and there are few sets
pub record AreSidesOver (C : Signature) (sides : Sides) : Type 0 where
  pub left : IsPatternOver C sides.left.kinds sides.left.pattern
  pub keep : IsPatternOver C [] sides.keep
  pub right : IsPatternOver C [] sides.right.pattern
  pub keep_free : sides.keep.cells ≡ []
  pub right_free : sides.right.pattern.cells ≡ []
  pub attributes : All (λ (set : SetCell). set.attr.0 < length C.attributes) sides.right.sets
  pub few : length sides.right.sets ≤ 256

-- the lists are a rule with few sets, unless its kind is that of a sesqui-pushout and arrows lead round a cycle
pub record IsRuleUnlessCyclic (C : Signature) (ops : ℕ) (rule : RuleLists) : Type 0 where
  pub parts : AreOver C rule
  pub few : length rule.sets ≤ 256
  pub sound : rule_fault C ops false rule ≡ None
