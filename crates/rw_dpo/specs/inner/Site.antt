-- What is known of a rule at a match.
use Rattle.std.specs.Prelude.{◌≡◌, ◌<◌, ℕ, true, List, length, sum}
use Rattle.rw_schema.specs.RowLists.{list_at}
use Rattle.rw_schema.specs.Signature.{Signature, IsCategory}
use Rattle.rw_spec.specs.Ascending.{ascends}
use Rattle.rw_spec.specs.Instance.{Instance, IsInstance}
use Rattle.rw_spec.specs.Natural.{IsNatural}
use Rattle.rw_pattern.specs.PatternLists.{instance_of_pattern, map_of_tuple, size_of}
use Rattle.rw_redex.specs.RuleParts.{HasObject, IsSpanOver}
use Rattle.rw_rule.specs.Images.{is_injective}
use Rattle.rw_rule.specs.RuleLists.{RuleLists}

-- the rule is over the signature, with an injective map to its left side, and its left side is mapped by the tuple into the
-- instance X, whose names ascend
pub record IsSite (C : Signature) (rule : RuleLists) (tuple : List ℕ) (X : Instance) : Type 0 where
  pub category : IsCategory C
  pub span : IsSpanOver C rule
  pub injective : is_injective rule.keep rule.l ≡ true
  pub long : length tuple ≡ sum rule.goal.left.sizes
  pub host : IsInstance C X
  pub ascend : (object : ℕ) → ascends (X.names object) ≡ true
  pub natural : IsNatural C (instance_of_pattern rule.goal.left) X (map_of_tuple rule.goal.left tuple)

-- the object has kept parts, each with an image on both sides, and the match gives a name to each left part
pub record HasKept (rule : RuleLists) (tuple : List ℕ) (object : ℕ) : Type 0 where
  pub known : HasObject rule object
  pub keep : object < length rule.keep.sizes
  pub images : length (list_at rule.l object) ≡ size_of rule.keep object
  pub long : length tuple ≡ sum rule.goal.left.sizes
