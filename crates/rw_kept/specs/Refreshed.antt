-- What a change does to the list of a goal.
use Rattle.std.specs.Prelude.{◌≡◌, ◌↔◌, ℕ, Bool, true, false, not, List, ◌++◌, map, filter, Contains}
use Rattle.std.specs.List.{list_any, flat_map}
use Rattle.std.specs.Str.{bytes_eq}
use Rattle.rw_schema.specs.Signature.{Signature}
use Rattle.rw_spec.specs.Instance.{Instance}
use Rattle.rw_rule.specs.RuleLists.{ConditionLists, GoalLists}
use Rattle.rw_kept.specs.Changed.{matches_through}
use Rattle.rw_kept.specs.Conditions.{joined, restricted, fresh_list}

-- the tuple is in the list
abbrev pub is_in : List (List ℕ) → List ℕ → Bool
is_in tuples tuple = list_any (bytes_eq tuple) tuples

-- the tuples of the one list that are not in the other, in order
abbrev pub without : List (List ℕ) → List (List ℕ) → List (List ℕ)
without tuples others = filter (λ tuple. not (is_in others tuple)) tuples

-- what the extensions with a changed name extend
abbrev pub extended_through : Signature → GoalLists → Instance → (ℕ → List ℕ) → ConditionLists → List (List ℕ)
extended_through C goal X changed condition =
    map (restricted goal.left condition) (matches_through C (joined goal.left condition) condition.monic X changed)

-- the tuples of which one instance alone decides: matches with a changed name, and what extensions with a changed name extend
abbrev pub suspects_in : Signature → GoalLists → Instance → (ℕ → List ℕ) → List (List ℕ)
suspects_in C goal X changed =
    matches_through C goal.left goal.monic X changed ++ flat_map (extended_through C goal X changed) goal.conditions

-- the tuples at which the list may change
abbrev pub suspects : Signature → GoalLists → Instance → Instance → (ℕ → List ℕ) → (ℕ → List ℕ) → List (List ℕ)
suspects C goal X Y out into = suspects_in C goal X out ++ suspects_in C goal Y into

-- what leaves and enters the list of the goal, by membership alone: of the suspects, those that are in one of both lists
pub record IsRefreshed (C : Signature) (goal : GoalLists) (X Y : Instance) (out into : ℕ → List ℕ) (gone new : List (List ℕ)) : Type 0 where
  pub gone_is : (tuple : List ℕ) → Contains gone tuple
      ↔ ((is_in (suspects C goal X Y out into) tuple ≡ true) × (is_in (fresh_list C X goal) tuple ≡ true) × (is_in (fresh_list C Y goal) tuple ≡ false))
  pub new_is : (tuple : List ℕ) → Contains new tuple
      ↔ ((is_in (suspects C goal X Y out into) tuple ≡ true) × (is_in (fresh_list C X goal) tuple ≡ false) × (is_in (fresh_list C Y goal) tuple ≡ true))
