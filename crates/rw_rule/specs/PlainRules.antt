-- Rules whose steps can be said part by part: double-pushout rules without conditions, whose map to the right is injective,
-- and so is every match.
use Rattle.std.specs.Prelude.{ℕ, Bool, true, false, ◌&&◌, ◌||◌, nat_le, List, [], ◌∷◌}
use Rattle.rw_schema.specs.First.{all_in}
use Rattle.rw_pattern.specs.PatternLists.{PatternLists, size_of}
use Rattle.rw_rule.specs.Images.{is_injective}
use Rattle.rw_rule.specs.RuleLists.{ConditionLists, RuleLists}
use Rattle.rw_rule.specs.declared.kind.RuleKind.{RuleKind}
use Rattle.rw_rule.specs.declared.kind.RuleKind.TheVariants.{Dpo, Spo, Sqpo}

-- the object is monic, or it has at most one part
abbrev pub is_single_or_monic : PatternLists → ℕ → Bool → Bool
is_single_or_monic pattern object monic = monic || nat_le (size_of pattern object) 1

-- each object with two parts or more is monic, so each match is injective
abbrev pub is_monic_where_many : PatternLists → List Bool → Bool
is_monic_where_many pattern monic = all_in (is_single_or_monic pattern) 0 monic

abbrev pub is_dpo : RuleKind → Bool
is_dpo Dpo = true
is_dpo Spo = false
is_dpo Sqpo = false

abbrev pub has_no_conditions : List ConditionLists → Bool
has_no_conditions [] = true
has_no_conditions (condition ∷ conditions) = false

-- a double-pushout rule without conditions; the map to the right side is injective, and so is every match of the left side
abbrev pub is_plain : RuleLists → Bool
is_plain rule =
    is_dpo rule.kind && has_no_conditions rule.goal.conditions && is_injective rule.keep rule.r && is_monic_where_many rule.goal.left rule.goal.monic
