-- The matches at whose places each condition has what it wants are the admissible ones.
use Rattle.std.proofs.Common.{◌≡◌, ◌∙◌, ℕ, zero, suc, ◌+◌, ◌<◌, Bool, true, false, ◌||◌, ◌&&◌, cond, List, [], ◌∷◌, ◌++◌, All, Contains, Some, None, filter, length, map, get_or, slice_get, refl, sym, ap, subst, arith, add-zero, zero-add}
use Rattle.std.specs.List.{list_all, list_any}
use Rattle.std.proofs.lemmas.List.{length-map, get_or-map}
use Rattle.std.proofs.lemmas.Option.{slice_get_within, get_or_from_slice_get}
use Rattle.rw_schema.specs.First.{all_in, flat_map_in}
use Rattle.rw_schema.specs.Signature.{Signature}
use Rattle.rw_spec.specs.Instance.{Instance}
use Rattle.rw_rule.specs.declared.condition.Condition.{Condition}
use Rattle.rw_rule.specs.RuleLists.{ConditionLists, GoalLists}
use Rattle.rw_rule.specs.declared.goal.Goal.{Goal}
use Rattle.rw_rule.specs.RuleFaults.{IsConditionOver}
use Rattle.rw_rule.specs.RuleParts.{condition_of_parts, goal_of_parts}
use Rattle.rw_pattern.specs.MapFaults.{map_fault}
use Rattle.rw_spec.proofs.Sequences.{contains_map}
use Rattle.std.proofs.lemmas.List.Elements.{All-contains}
use Rattle.rw_kept.specs.Conditions.{all_extensions, extends_tuple, extensions, is_satisfied, meets_condition, is_admissible, IsConditionOf, IsGoal}
use Rattle.rw_kept.specs.KeptLists.{extensions_of}
use Rattle.rw_kept.specs.inner.Groups.{has_some, group_at, groups_at, tuple_at, is_met_at, are_met_at, match_if_met, met_matches}

-- some item passes exactly where those that pass are some
some_filter : (p : List ℕ → Bool) (xs : List (List ℕ)) → has_some (filter p xs) ≡ list_any p xs
some_filter p [] = refl
some_filter p (x ∷ xs) = cases (p x) (some_filter p xs)
  where
    cases : (b : Bool) → has_some (filter p xs) ≡ list_any p xs → has_some (cond b (x ∷ filter p xs) (filter p xs)) ≡ (b || list_any p xs)
    cases true same = refl
    cases false same = same

-- a test of each place that is one of the items
all_same : {X Y : Type 0} (f : ℕ → X → Bool) (g : Y → Bool) (h : X → Y) (i : ℕ) (xs : List X)
    → ((k : ℕ) (x : X) → slice_get xs k ≡ Some x → f (i + k) x ≡ g (h x)) → all_in f i xs ≡ list_all g (map h xs)
all_same f g h i [] each = refl
all_same f g h i (x ∷ xs) each =
    ap (λ b. b && all_in f (i + 1) xs) (rw add-zero at (each 0 x refl))
    ∙ ap (λ b. g (h x) && b) (all_same f g h (i + 1) xs (λ k y there.
    let same : (i + 1) + k ≡ i + suc k = omega arith in
    rw same (each (suc k) y there)))

-- items by place that are those that pass
flat_filter : {X : Type 0} (f : ℕ → X → List X) (p : X → Bool) (i : ℕ) (xs : List X)
    → ((k : ℕ) (x : X) → slice_get xs k ≡ Some x → f (i + k) x ≡ cond (p x) (x ∷ []) []) → flat_map_in f i xs ≡ filter p xs
flat_filter f p i [] each = refl
flat_filter {X} f p i (x ∷ xs) each =
    ap (λ front. front ++ flat_map_in f (i + 1) xs) (rw add-zero at (each 0 x refl))
    ∙ ap (λ rest. cond (p x) (x ∷ []) [] ++ rest) (flat_filter f p (i + 1) xs (λ k y there.
    let same : (i + 1) + k ≡ i + suc k = omega arith in
    rw same (each (suc k) y there)))
    ∙ joined (p x)
  where
    joined : (b : Bool) → cond b (x ∷ []) [] ++ filter p xs ≡ cond b (x ∷ filter p xs) (filter p xs)
    joined true = refl
    joined false = refl

module _ (C : Signature) (X : Instance) (goal : GoalLists) (conditions : List Condition) (matches : List (List ℕ)) (groups : List (List (List (List ℕ))))
    (conditions_are : goal.conditions ≡ map condition_of_parts conditions)
    (groups_are : groups ≡ map (extensions_of C X goal matches) goal.conditions) where
  -- the group of a condition and a match has the match's extensions
  group_is : (number place : ℕ) (condition : Condition) → slice_get conditions number ≡ Some condition → place < length matches
      → group_at (groups_at groups number) place ≡ extensions C goal.left (condition_of_parts condition) X (tuple_at matches place)
  group_is number place condition there within =
      let listed : List ConditionLists = map condition_of_parts conditions in
      let below : number < length conditions = slice_get_within conditions number condition there in
      let below_listed : number < length listed = rw (length-map conditions condition_of_parts) below in
      let any : ConditionLists = condition_of_parts condition in
      let here : get_or listed number any ≡ condition_of_parts condition =
      get_or-map condition_of_parts conditions number condition any below ∙ ap condition_of_parts (get_or_from_slice_get conditions number condition condition there) in
      let of_condition : groups_at groups number ≡ extensions_of C X goal matches (condition_of_parts condition) =
      ap (λ all. groups_at all number) (groups_are ∙ ap (map (extensions_of C X goal matches)) conditions_are)
      ∙ get_or-map (extensions_of C X goal matches) listed number any [] below_listed
      ∙ ap (extensions_of C X goal matches) here in
      ap (λ all. group_at all place) of_condition
      ∙ get_or-map (extensions C goal.left (condition_of_parts condition) X) matches place [] [] within

  -- a condition has at the place of a match what it wants exactly where the match meets it
  met_is : (number place : ℕ) (condition : Condition) → slice_get conditions number ≡ Some condition → place < length matches
      → is_met_at groups place number condition ≡ meets_condition C goal.left X (tuple_at matches place) (condition_of_parts condition)
  met_is number place condition there within =
      ap (λ found. is_satisfied condition.positive found)
      (ap has_some (group_is number place condition there within)
      ∙ some_filter (extends_tuple goal.left (condition_of_parts condition) (tuple_at matches place)) (all_extensions C goal.left (condition_of_parts condition) X))

  -- all conditions have what they want exactly where the match is admissible
  are_met_is : (place : ℕ) → place < length matches → are_met_at conditions groups place ≡ is_admissible C goal X (tuple_at matches place)
  are_met_is place within =
      all_same (is_met_at groups place) (meets_condition C goal.left X (tuple_at matches place)) condition_of_parts 0 conditions
      (λ k condition there. rw zero-add (met_is k place condition there within))
      ∙ ap (list_all (meets_condition C goal.left X (tuple_at matches place))) (sym conditions_are)

  -- they are the admissible ones
  pub met_are : met_matches conditions groups matches ≡ filter (is_admissible C goal X) matches
  met_are =
      flat_filter (match_if_met conditions groups) (is_admissible C goal X) 0 matches (λ k m there.
      let within : k < length matches = slice_get_within matches k m there in
      let here : tuple_at matches k ≡ m = get_or_from_slice_get matches k m [] there in
      let met : are_met_at conditions groups k ≡ is_admissible C goal X m = are_met_is k within ∙ ap (is_admissible C goal X) here in
      rw zero-add (ap (λ b. cond b (m ∷ []) []) met))

-- a goal's condition is one over the signature
pub condition_of : (C : Signature) (goal : Goal) (number : ℕ) (condition : Condition) → number < length goal.conditions.items → condition ≡ get_or goal.conditions.items number condition
    → IsGoal C (goal_of_parts goal) → IsConditionOf C goal.kinds.items goal.left (condition_of_parts condition)
condition_of C goal number condition within is known =
    let conditions : List ConditionLists = map condition_of_parts goal.conditions.items in
    let among : Contains conditions (condition_of_parts condition) = contains_map condition_of_parts goal.conditions.items condition (number, within, sym is) in
    record {
      left_over = known.over.left;
      over = All-contains (IsConditionOver C goal.kinds.items) conditions (condition_of_parts condition) known.over.conditions among;
      map_is = All-contains (λ (condition : ConditionLists). map_fault C goal.left condition.pattern condition.images ≡ None) conditions (condition_of_parts condition) known.maps among;
    }

-- what is as long as the lists that it stands for
pub each_long : {X : Type 0} (lists : X → List (List (List ℕ))) (long : X → ℕ) (n : ℕ) (xs : List X) (ys : List (List (List (List ℕ)))) → ((x : X) → long x ≡ length (lists x))
    → map lists xs ≡ ys → ((k : ℕ) → k < length ys → length (groups_at ys k) ≡ n) → All (λ x. long x ≡ n) xs
each_long lists long n xs ys same are each k d within =
    let below : k < length ys = subst (λ (ys : List (List (List (List ℕ)))). k < length ys) are (rw (length-map xs lists) within) in
    same (get_or xs k d) ∙ ap length (sym (get_or-map lists xs k d [] within) ∙ ap (λ all. groups_at all k) are) ∙ each k below

-- there is a list of extensions for each match
pub extensions_long : (C : Signature) (X : Instance) (goal : GoalLists) (matches : List (List ℕ)) (conditions : List ConditionLists) (k : ℕ) → k < length conditions
    → length (groups_at (map (extensions_of C X goal matches) conditions) k) ≡ length matches
extensions_long C X goal matches [] k within = absurd (omega arith)
extensions_long C X goal matches (condition ∷ conditions) zero within = length-map matches (extensions C goal.left condition X)
extensions_long C X goal matches (condition ∷ conditions) (suc k) within = extensions_long C X goal matches conditions k (omega arith)
