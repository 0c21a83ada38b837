-- Conditions on matches: the extensions of a match, and the list of a goal.
use Rattle.std.specs.Prelude.{◌≡◌, ◌<◌, ℕ, Bool, true, false, not, List, None, map, filter, slice_index}
use Rattle.std.specs.List.{All, list_all, list_any}
use Rattle.std.specs.Str.{bytes_eq}
use Rattle.rw_schema.specs.First.{flat_map_in}
use Rattle.rw_schema.specs.RowLists.{list_at}
use Rattle.rw_schema.specs.Signature.{Signature}
use Rattle.rw_schema.specs.declared.atom.Kind as kinds
use Rattle.rw_spec.specs.Instance.{Instance}
use Rattle.rw_spec.specs.Natural.{Map}
use Rattle.rw_pattern.specs.Entries.{with_entries}
use Rattle.rw_pattern.specs.MapFaults.{image_of, map_fault}
use Rattle.rw_pattern.specs.Matches.{matches, IsMatch, MeetsCells}
use Rattle.rw_pattern.specs.PatternLists.{PatternLists, size_of, place_of}
use Rattle.rw_pattern.specs.PatternFaults.{IsPatternOver}
use Rattle.rw_rule.specs.RuleFaults.{IsConditionOver, IsGoalOver}
use Rattle.rw_rule.specs.RuleLists.{ConditionLists, GoalLists}

-- ---- what is asked of goals

-- a condition over the signature, with a map from the left side to its pattern
pub record IsConditionOf (C : Signature) (kinds : List kinds.Kind) (left : PatternLists) (condition : ConditionLists) : Type 0 where
  pub left_over : IsPatternOver C kinds left
  pub over : IsConditionOver C kinds condition
  pub map_is : map_fault C left condition.pattern condition.images ≡ None

-- a goal over the signature, each of whose conditions has a map from the left side to its pattern
pub record IsGoal (C : Signature) (goal : GoalLists) : Type 0 where
  pub over : IsGoalOver C goal
  pub maps : All (λ (condition : ConditionLists). map_fault C goal.left condition.pattern condition.images ≡ None) goal.conditions

-- ---- said of maps

-- a match of the condition's pattern, with the condition's own monic objects, that sends the image of each part of the left
-- side where the match sends the part; one list of values of the variables meets the cells of both
pub record IsExtension (C : Signature) (left : PatternLists) (condition : ConditionLists) (X : Instance) (m q : Map) : Type 0 where
  pub matched : IsMatch C condition.pattern condition.monic X q
  pub same_values : MeetsCells left X m matched.values
  pub after : (object part : ℕ) → object < C.objects → part < size_of left object → q object (image_of condition.images object part) ≡ m object part

-- ---- by the entries that are carried along the condition's map

-- the condition's pattern with the entries of the left side, carried along the condition's map
abbrev pub joined : PatternLists → ConditionLists → PatternLists
joined left condition = with_entries condition.pattern left condition.images

-- of an object, the places of the images of its parts
abbrev pub places_of : ConditionLists → ℕ → ℕ → List ℕ
places_of condition object size = map (place_of condition.pattern object) (list_at condition.images object)

-- of each place of the left side, the place of the image
abbrev pub image_places : PatternLists → ConditionLists → List ℕ
image_places left condition = flat_map_in (places_of condition) 0 left.sizes

-- what a tuple of the condition's pattern gives to the parts of the left side
abbrev pub restricted : PatternLists → ConditionLists → List ℕ → List ℕ
restricted left condition tuple = map (slice_index tuple) (image_places left condition)

-- the tuple extends the match
abbrev pub extends_tuple : PatternLists → ConditionLists → List ℕ → List ℕ → Bool
extends_tuple left condition m q = bytes_eq (restricted left condition q) m

-- all extensions of all matches along the condition's map
abbrev pub all_extensions : Signature → PatternLists → ConditionLists → Instance → List (List ℕ)
all_extensions C left condition X = matches C (joined left condition) condition.monic X

-- the extensions of one match, in lexicographic order
abbrev pub extensions : Signature → PatternLists → ConditionLists → Instance → List ℕ → List (List ℕ)
extensions C left condition X m = filter (extends_tuple left condition m) (all_extensions C left condition X)

-- ---- the list of a goal

-- the match has an extension
abbrev pub has_extension : Signature → PatternLists → ConditionLists → Instance → List ℕ → Bool
has_extension C left condition X m = list_any (extends_tuple left condition m) (all_extensions C left condition X)

-- a positive condition wants an extension, a negative one wants none
abbrev pub is_satisfied : Bool → Bool → Bool
is_satisfied true found = found
is_satisfied false found = not found

-- the match meets the condition
abbrev pub meets_condition : Signature → PatternLists → Instance → List ℕ → ConditionLists → Bool
meets_condition C left X m condition = is_satisfied condition.positive (has_extension C left condition X m)

-- each positive condition has an extension, and each negative one has none
abbrev pub is_admissible : Signature → GoalLists → Instance → List ℕ → Bool
is_admissible C goal X m = list_all (meets_condition C goal.left X m) goal.conditions

-- the list of a goal: the admissible matches, in lexicographic order
abbrev pub fresh_list : Signature → Instance → GoalLists → List (List ℕ)
fresh_list C X goal = filter (is_admissible C goal X) (matches C goal.left goal.monic X)
