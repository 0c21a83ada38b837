-- Two parts of the left pattern that have one name and do not both stay: the first at its least place.
use Rattle.std.specs.Prelude.{◌==◌, ◌&&◌, ℕ, Bool, not, nat_lt, List, Option}
use Rattle.rw_schema.specs.First.{first_in, fault_unless}
use Rattle.rw_pattern.specs.PatternLists.{map_of_tuple}
use Rattle.rw_rule.specs.Images.{is_image, parts_of}
use Rattle.rw_rule.specs.RuleLists.{RuleLists}
use Rattle.rw_rule.specs.declared.refusal.Refusal.{Refusal}
use Rattle.rw_rule.specs.declared.refusal.Refusal.TheVariants.{Identification}

-- the two parts, in this order, have one name and do not both stay
abbrev pub identifies : RuleLists → List ℕ → ℕ → ℕ → ℕ → Bool
identifies rule tuple object first second =
    nat_lt first second && map_of_tuple rule.goal.left tuple object first == map_of_tuple rule.goal.left tuple object second
    && not (is_image rule.l object first && is_image rule.l object second)

-- the first part that is identified with this one
abbrev pub identification_of : RuleLists → List ℕ → ℕ → ℕ → Option Refusal
identification_of rule tuple object first =
    first_in (λ place second. fault_unless (not (identifies rule tuple object first second)) (Identification (record { 0 = object }) first second))
    0 (parts_of rule.goal.left object)

-- the first part of the object that is identified with a later one
abbrev pub identification_at : RuleLists → List ℕ → ℕ → ℕ → Option Refusal
identification_at rule tuple object size = first_in (λ place first. identification_of rule tuple object first) 0 (parts_of rule.goal.left object)

-- the first object with such parts
abbrev pub identification : RuleLists → List ℕ → Option Refusal
identification rule tuple = first_in (identification_at rule tuple) 0 rule.goal.left.sizes
