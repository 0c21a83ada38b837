-- Tuples that are grouped by what they extend, and the matches whose groups are as the conditions want.
use Rattle.std.specs.Prelude.{◌≡◌, ◌<◌, ℕ, Bool, true, false, List, [], ◌∷◌, ◌++◌, Option, Some, None, filter, length, slice_index_or, slice_set, if◌then◌else◌}
use Rattle.rw_schema.specs.First.{all_in, flat_map_in}
use Rattle.rw_rule.specs.declared.condition.Condition.{Condition}
use Rattle.rw_kept.specs.Conditions.{is_satisfied}

-- the tuple at a place
abbrev pub tuple_at : List (List ℕ) → ℕ → List ℕ
tuple_at tuples place = slice_index_or tuples place []

-- the group at a place
abbrev pub group_at : List (List (List ℕ)) → ℕ → List (List ℕ)
group_at groups place = slice_index_or groups place []

-- each match has the group of those of the tuples that extend it
pub record AreGroups (extends : List ℕ → List ℕ → Bool) (tuples matches : List (List ℕ)) (groups : List (List (List ℕ))) : Type 0 where
  pub count : length groups ≡ length matches
  pub each : (place : ℕ) → place < length matches → group_at groups place ≡ filter (extends (tuple_at matches place)) tuples

-- the groups with the tuple at the end of the one at the place, where one is given
abbrev pub put_at : List (List (List ℕ)) → Option ℕ → List ℕ → List (List (List ℕ))
put_at groups None tuple = groups
put_at groups (Some place) tuple = slice_set groups place (group_at groups place ++ tuple ∷ [])

-- a tuple is in the group
abbrev pub has_some : List (List ℕ) → Bool
has_some [] = false
has_some (tuple ∷ tuples) = true

-- the groups of each condition
abbrev pub groups_at : List (List (List (List ℕ))) → ℕ → List (List (List ℕ))
groups_at groups number = slice_index_or groups number []

-- the condition has at the place what it wants
abbrev pub is_met_at : List (List (List (List ℕ))) → ℕ → ℕ → Condition → Bool
is_met_at groups place number condition = is_satisfied condition.positive (has_some (group_at (groups_at groups number) place))

-- each condition has at the place what it wants
abbrev pub are_met_at : List Condition → List (List (List (List ℕ))) → ℕ → Bool
are_met_at conditions groups place = all_in (is_met_at groups place) 0 conditions

-- the match, where each condition has at its place what it wants
abbrev pub match_if_met : List Condition → List (List (List (List ℕ))) → ℕ → List ℕ → List (List ℕ)
match_if_met conditions groups place tuple = if are_met_at conditions groups place then tuple ∷ [] else []

-- the matches at whose places each condition has what it wants
abbrev pub met_matches : List Condition → List (List (List (List ℕ))) → List (List ℕ) → List (List ℕ)
met_matches conditions groups matches = flat_map_in (match_if_met conditions groups) 0 matches
