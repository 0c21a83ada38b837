-- Which names a match takes, and which of them are removed.
use Rattle.std.specs.Prelude.{◌==◌, ◌&&◌, ℕ, Bool, not, List}
use Rattle.std.specs.List.{list_any}
use Rattle.rw_pattern.specs.PatternLists.{map_of_tuple}
use Rattle.rw_rule.specs.Images.{is_image, parts_of}
use Rattle.rw_rule.specs.RuleLists.{RuleLists}

-- the match gives the name to a part of the left pattern
abbrev pub is_matched : RuleLists → List ℕ → ℕ → ℕ → Bool
is_matched rule tuple object name =
    list_any (λ part. map_of_tuple rule.goal.left tuple object part == name) (parts_of rule.goal.left object)

-- the match gives the name to a part of the left pattern outside the image of l
abbrev pub is_removed : RuleLists → List ℕ → ℕ → ℕ → Bool
is_removed rule tuple object name =
    list_any (λ part. not (is_image rule.l object part) && map_of_tuple rule.goal.left tuple object part == name) (parts_of rule.goal.left object)
