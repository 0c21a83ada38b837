-- Arrows that dangle, by the removed parts that they lead to.
use Rattle.std.specs.Prelude.{◌==◌, ◌&&◌, ℕ, Bool, not, cond, nat_lt, List, Option, Some, None}
use Rattle.std.specs.List.{list_any}
use Rattle.rw_schema.specs.declared.signature.ArrowEnds.{ArrowEnds}
use Rattle.rw_spec.specs.Instance.{Instance}
use Rattle.rw_pattern.specs.PatternLists.{map_of_tuple}
use Rattle.rw_redex.specs.Matched.{is_matched}
use Rattle.rw_rule.specs.Images.{is_image}
use Rattle.rw_rule.specs.RuleLists.{RuleLists}

-- the part of the left side is not kept, and the name is its
abbrev pub leaves_name : RuleLists → List ℕ → ℕ → ℕ → ℕ → Bool
leaves_name rule tuple object name part = not (is_image rule.l object part) && map_of_tuple rule.goal.left tuple object part == name

-- the arrow leads from the name, outside the match, to the name of one of these parts, which is not kept
abbrev pub dangles_to : RuleLists → List ℕ → Instance → ℕ → ArrowEnds → List ℕ → ℕ → Bool
dangles_to rule tuple X arrow ends parts name =
    not (is_matched rule tuple ends.source.0 name) && list_any (leaves_name rule tuple ends.target.0 (X.value arrow name)) parts

-- the lesser of two numbers, as far as they are there
abbrev pub lesser : Option ℕ → Option ℕ → Option ℕ
lesser None second = second
lesser (Some x) None = Some x
lesser (Some x) (Some y) = Some (cond (nat_lt y x) y x)
