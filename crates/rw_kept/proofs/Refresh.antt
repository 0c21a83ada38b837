-- What a change does to extensions and to the list of a goal.
use Rattle.std.proofs.Common.{◌≡◌, ℕ, Bool, true, false, not, None, List, Contains, refl, sym, ap, ◌∙◌, subst, inl, inr}
use Rattle.std.specs.Prelude.{◌⊎◌, ◌↔◌}
use Rattle.std.specs.Cmp.Lexicographic.{slice_cmp}
use Rattle.std.specs.List.{flat_map}
use Rattle.std.specs.List.Sorted.{IsStrictlySortedBy}
use Rattle.std.specs.Ordering.{nat_cmp}
use Rattle.std.proofs.lemmas.Bool.{both_ways, not-true, false_from_ne_true}
use Rattle.std.proofs.lemmas.Cmp.{nat_list_cmp_total}
use Rattle.std.proofs.lemmas.List.Elements.{All-contains, Contains-append_left, Contains-append_right}
use Rattle.std.proofs.lemmas.List.Kept.{IsStrictlySortedBy-filter}
use Rattle.std.proofs.lemmas.Slice.Eq.{bytes_eq-Decides}
use Rattle.rw_schema.specs.Signature.{Signature}
use Rattle.rw_spec.specs.Instance.{Instance}
use Rattle.rw_spec.proofs.Sequences.{contains_filter, contained_in_filter, contains_map, contains_flat_map}
use Rattle.rw_pattern.specs.MapFaults.{map_fault}
use Rattle.rw_pattern.specs.Matches.{matches}
use Rattle.rw_pattern.specs.PatternFaults.{IsPatternOf}
use Rattle.rw_pattern.specs.PatternLists.{PatternLists}
use Rattle.rw_pattern.proofs.WithEntries.{with_entries_over}
use Rattle.rw_rule.specs.RuleFaults.{IsConditionOver}
use Rattle.rw_rule.specs.RuleLists.{ConditionLists, GoalLists}
use Rattle.rw_kept.specs.Changed.{Survives, IsChange, goes_through, matches_through}
use Rattle.rw_kept.specs.Conditions.{joined, restricted, extends_tuple, all_extensions, extensions, has_extension, is_satisfied, meets_condition, is_admissible, fresh_list, IsGoal}
use Rattle.rw_kept.specs.Refreshed.{is_in, without, extended_through, suspects_in, suspects, IsRefreshed}
use Rattle.rw_kept.proofs.Locality.{match_survives}
use Rattle.rw_spec.proofs.OneOrder.{one_order}
use Rattle.rw_kept.proofs.Sought.{any_of, of_any, list_all_same, contains_is_in, is_in_contains}
use Rattle.rw_kept.proofs.Through.{decided, undone, Ascends, matches_ascend}

-- the pattern with the carried entries is one
pub joined_of : (C : Signature) (goal : GoalLists) (condition : ConditionLists) → IsGoal C goal → Contains goal.conditions condition → IsPatternOf C (joined goal.left condition)
joined_of C goal condition is among =
    let condition_is : IsConditionOver C goal.kinds condition = All-contains (IsConditionOver C goal.kinds) goal.conditions condition is.over.conditions among in
    let map_is : map_fault C goal.left condition.pattern condition.images ≡ None =
    All-contains (λ (condition : ConditionLists). map_fault C goal.left condition.pattern condition.images ≡ None) goal.conditions condition is.maps among in
    (goal.kinds, with_entries_over C goal.kinds condition.pattern goal.left condition.images condition_is.pattern is.over.left map_is)

-- the extensions of one match after a change: those before without a name that goes, and those with a name that comes
pub extensions_after : (C : Signature) (goal : GoalLists) (condition : ConditionLists) (X Y : Instance) (out into : ℕ → List ℕ) → IsGoal C goal → Contains goal.conditions condition
    → IsChange C X Y out into → (m q : List ℕ) → Contains (extensions C goal.left condition Y m) q
    ↔ ((Contains (extensions C goal.left condition X m) q × (goes_through out (joined goal.left condition) q ≡ false))
    ⊎ (Contains (extensions C goal.left condition Y m) q × (goes_through into (joined goal.left condition) q ≡ true)))
extensions_after C goal condition X Y out into is among change m q =
    let pattern : PatternLists = joined goal.left condition in
    let pattern_is : IsPatternOf C pattern = joined_of C goal condition is among in
    let test : List ℕ → Bool = extends_tuple goal.left condition m in
    let before : List (List ℕ) = all_extensions C goal.left condition X in
    let after : List (List ℕ) = all_extensions C goal.left condition Y in (
      λ there.
          let kept = contained_in_filter test after q there in
          elim (decided (goes_through into pattern q)) [
            | inl through ↦ inr (there, through)
            | inr apart ↦
                let back = match_survives C pattern condition.monic Y X into out q pattern_is change.back kept.0 apart in
                inl (contains_filter test before q back.0 kept.1, back.1)
          ],
      λ either. elim either [
        | inl stays ↦
            let kept = contained_in_filter test before q stays.0 in
            contains_filter test after q (match_survives C pattern condition.monic X Y out into q pattern_is change.there kept.0 stays.1).0 kept.1
        | inr comes ↦ comes.0
      ],
    )

-- the list of the extensions of one match ascends
pub extensions_ascend : (C : Signature) (left : PatternLists) (condition : ConditionLists) (X : Instance) (m : List ℕ) → Ascends X
    → IsStrictlySortedBy (slice_cmp nat_cmp) (extensions C left condition X m)
extensions_ascend C left condition X m ascends =
    IsStrictlySortedBy-filter (slice_cmp nat_cmp) (extends_tuple left condition m) (all_extensions C left condition X)
    (matches_ascend C (joined left condition) condition.monic X ascends)

-- an extension with a changed name leads to what it extends
suspected : (C : Signature) (goal : GoalLists) (condition : ConditionLists) (X : Instance) (changed : ℕ → List ℕ) (m q : List ℕ) → Contains goal.conditions condition
    → Contains (all_extensions C goal.left condition X) q → extends_tuple goal.left condition m q ≡ true → goes_through changed (joined goal.left condition) q ≡ true
    → Contains (suspects_in C goal X changed) m
suspected C goal condition X changed m q among there extends through =
    let found : List (List ℕ) = matches_through C (joined goal.left condition) condition.monic X changed in
    let same : restricted goal.left condition q ≡ m = (bytes_eq-Decides (restricted goal.left condition q) m).0 extends in
    let here : Contains (extended_through C goal X changed condition) (restricted goal.left condition q) =
    contains_map (restricted goal.left condition) found q (contains_filter (goes_through changed (joined goal.left condition)) (all_extensions C goal.left condition X) q there through) in
    Contains-append_right (matches_through C goal.left goal.monic X changed) (flat_map (extended_through C goal X changed) goal.conditions) m
    (contains_flat_map (extended_through C goal X changed) goal.conditions condition m among
    (subst (λ (t : List ℕ). Contains (extended_through C goal X changed condition) t) same here))

-- a match that is no suspect keeps its extension
extension_survives : (C : Signature) (goal : GoalLists) (condition : ConditionLists) (X Y : Instance) (out into : ℕ → List ℕ) (m : List ℕ) → IsGoal C goal
    → Contains goal.conditions condition → Survives C X Y out into → (Contains (suspects_in C goal X out) m → ⊥)
    → has_extension C goal.left condition X m ≡ true → has_extension C goal.left condition Y m ≡ true
extension_survives C goal condition X Y out into m is among survives unsuspected has =
    let found = of_any (extends_tuple goal.left condition m) (all_extensions C goal.left condition X) has in
    let apart : goes_through out (joined goal.left condition) found.0 ≡ false =
    false_from_ne_true (goes_through out (joined goal.left condition) found.0) (λ through.
    unsuspected (suspected C goal condition X out m found.0 among found.1 found.2 through)) in
    let after = match_survives C (joined goal.left condition) condition.monic X Y out into found.0 (joined_of C goal condition is among) survives found.1 apart in
    any_of (extends_tuple goal.left condition m) (all_extensions C goal.left condition Y) found.0 after.0 found.2

-- two tests that follow from each other are one
pub one_test : (a b : Bool) → (a ≡ true → b ≡ true) → (b ≡ true → a ≡ true) → a ≡ b
one_test true b there back = sym (there refl)
one_test false true there back = back refl
one_test false false there back = refl

-- a match that is no suspect is admissible before exactly where it is after
pub admissible_same : (C : Signature) (goal : GoalLists) (X Y : Instance) (out into : ℕ → List ℕ) (m : List ℕ) → IsGoal C goal → IsChange C X Y out into
    → (Contains (suspects_in C goal X out) m → ⊥) → (Contains (suspects_in C goal Y into) m → ⊥) → is_admissible C goal X m ≡ is_admissible C goal Y m
admissible_same C goal X Y out into m is change before after =
    list_all_same (meets_condition C goal.left X m) (meets_condition C goal.left Y m) goal.conditions
    (λ condition among. ap (is_satisfied condition.positive)
    (one_test (has_extension C goal.left condition X m) (has_extension C goal.left condition Y m)
    (extension_survives C goal condition X Y out into m is among change.there before)
    (extension_survives C goal condition Y X into out m is among change.back after)))

-- a tuple of the list that is no suspect stays in the list
pub fresh_survives : (C : Signature) (goal : GoalLists) (X Y : Instance) (out into : ℕ → List ℕ) (m : List ℕ) → IsGoal C goal → IsChange C X Y out into
    → (Contains (suspects_in C goal X out) m → ⊥) → (Contains (suspects_in C goal Y into) m → ⊥) → Contains (fresh_list C X goal) m → Contains (fresh_list C Y goal) m
fresh_survives C goal X Y out into m is change before after there =
    let left : List (List ℕ) = matches C goal.left goal.monic X in
    let kept = contained_in_filter (is_admissible C goal X) left m there in
    let apart : goes_through out goal.left m ≡ false =
    false_from_ne_true (goes_through out goal.left m) (λ through.
    before (Contains-append_left (matches_through C goal.left goal.monic X out) (flat_map (extended_through C goal X out) goal.conditions) m
    (contains_filter (goes_through out goal.left) left m kept.0 through))) in
    let matched = match_survives C goal.left goal.monic X Y out into m (goal.kinds, is.over.left) change.there kept.0 apart in
    contains_filter (is_admissible C goal Y) (matches C goal.left goal.monic Y) m matched.0
    (sym (admissible_same C goal X Y out into m is change before after) ∙ kept.1)

-- outside the suspects both lists have the same tuples
pub unsuspected_same : (C : Signature) (goal : GoalLists) (X Y : Instance) (out into : ℕ → List ℕ) (m : List ℕ) → IsGoal C goal → IsChange C X Y out into
    → is_in (suspects C goal X Y out into) m ≡ false → is_in (fresh_list C X goal) m ≡ is_in (fresh_list C Y goal) m
unsuspected_same C goal X Y out into m is change none =
    let before : Contains (suspects_in C goal X out) m → ⊥ =
    λ there. both_ways (is_in (suspects C goal X Y out into) m) none
    (contains_is_in (suspects C goal X Y out into) m (Contains-append_left (suspects_in C goal X out) (suspects_in C goal Y into) m there)) in
    let after : Contains (suspects_in C goal Y into) m → ⊥ =
    λ there. both_ways (is_in (suspects C goal X Y out into) m) none
    (contains_is_in (suspects C goal X Y out into) m (Contains-append_right (suspects_in C goal X out) (suspects_in C goal Y into) m there)) in
    one_test (is_in (fresh_list C X goal) m) (is_in (fresh_list C Y goal) m)
    (λ there. contains_is_in (fresh_list C Y goal) m (fresh_survives C goal X Y out into m is change before after (is_in_contains (fresh_list C X goal) m there)))
    (λ there. contains_is_in (fresh_list C X goal) m
    (fresh_survives C goal Y X into out m is (undone C X Y out into change) after before (is_in_contains (fresh_list C Y goal) m there)))

-- the list of a goal ascends
pub fresh_ascends : (C : Signature) (goal : GoalLists) (X : Instance) → Ascends X → IsStrictlySortedBy (slice_cmp nat_cmp) (fresh_list C X goal)
fresh_ascends C goal X ascends =
    IsStrictlySortedBy-filter (slice_cmp nat_cmp) (is_admissible C goal X) (matches C goal.left goal.monic X) (matches_ascend C goal.left goal.monic X ascends)

-- a tuple of the one list that is not in the other is a suspect
one_alone : (C : Signature) (goal : GoalLists) (X Y : Instance) (out into : ℕ → List ℕ) (m : List ℕ) (one other : Bool) → IsGoal C goal → IsChange C X Y out into
    → is_in (fresh_list C X goal) m ≡ one → is_in (fresh_list C Y goal) m ≡ other → (one ≡ other → ⊥) → is_in (suspects C goal X Y out into) m ≡ true
one_alone C goal X Y out into m one other is change before after differ =
    elim (decided (is_in (suspects C goal X Y out into) m)) [
      | inl suspect ↦ suspect
      | inr none ↦ absurd (differ (sym before ∙ unsuspected_same C goal X Y out into m is change none ∙ after))
    ]

-- members of the one list that are not in the other
pub in_without : (xs ys : List (List ℕ)) (x : List ℕ) → Contains (without xs ys) x ↔ ((is_in xs x ≡ true) × (is_in ys x ≡ false))
in_without xs ys x = (
  λ there.
      let kept = contained_in_filter (λ tuple. not (is_in ys tuple)) xs x there in
      (contains_is_in xs x kept.0, not-true (is_in ys x) kept.1),
  λ both. contains_filter (λ tuple. not (is_in ys tuple)) xs x (is_in_contains xs x both.0) (ap not both.1),
)

-- what a refresh gives by membership, put in order, are exactly the tuples gone and new
pub refreshed : (C : Signature) (goal : GoalLists) (X Y : Instance) (out into : ℕ → List ℕ) (gone new : List (List ℕ)) → IsGoal C goal → IsChange C X Y out into → Ascends X → Ascends Y
    → IsStrictlySortedBy (slice_cmp nat_cmp) gone → IsStrictlySortedBy (slice_cmp nat_cmp) new → IsRefreshed C goal X Y out into gone new
    → (gone ≡ without (fresh_list C X goal) (fresh_list C Y goal)) × (new ≡ without (fresh_list C Y goal) (fresh_list C X goal))
refreshed C goal X Y out into gone new is change X_up Y_up gone_up new_up given =
    let before : List (List ℕ) = fresh_list C X goal in
    let after : List (List ℕ) = fresh_list C Y goal in (
      one_order (slice_cmp nat_cmp) nat_list_cmp_total gone (without before after) gone_up
          (IsStrictlySortedBy-filter (slice_cmp nat_cmp) (λ tuple. not (is_in after tuple)) before (fresh_ascends C goal X X_up))
          (λ m there. let parts = (given.gone_is m).0 there in (in_without before after m).1 (parts.1, parts.2))
          (λ m there. let parts = (in_without before after m).0 there in
          (given.gone_is m).1 (one_alone C goal X Y out into m true false is change parts.0 parts.1 (λ same. cc), parts.0, parts.1)),
      one_order (slice_cmp nat_cmp) nat_list_cmp_total new (without after before) new_up
          (IsStrictlySortedBy-filter (slice_cmp nat_cmp) (λ tuple. not (is_in before tuple)) after (fresh_ascends C goal Y Y_up))
          (λ m there. let parts = (given.new_is m).0 there in (in_without after before m).1 (parts.2, parts.1))
          (λ m there. let parts = (in_without after before m).0 there in
          (given.new_is m).1 (one_alone C goal X Y out into m false true is change parts.1 parts.0 (λ same. cc), parts.1, parts.0)),
    )

-- the list without what is gone and with what is new is the list after, whatever made it
pub committed : (before after list : List (List ℕ)) → IsStrictlySortedBy (slice_cmp nat_cmp) after → IsStrictlySortedBy (slice_cmp nat_cmp) list
    → ((m : List ℕ) → Contains list m ↔ (Contains (without before (without before after)) m ⊎ Contains (without after before) m)) → list ≡ after
committed before after list after_up list_up members =
    one_order (slice_cmp nat_cmp) nat_list_cmp_total list after list_up after_up
    (λ m there. elim ((members m).0 there) [
      | inl stays ↦
          let parts = (in_without before (without before after) m).0 stays in
          elim (decided (is_in after m)) [
            | inl here ↦ is_in_contains after m here
            | inr none ↦ absurd (both_ways (is_in (without before after) m) parts.1
                (contains_is_in (without before after) m ((in_without before after m).1 (parts.0, none))))
          ]
      | inr comes ↦ is_in_contains after m ((in_without after before m).0 comes).0
    ])
    (λ m there.
    let here : is_in after m ≡ true = contains_is_in after m there in
    elim (decided (is_in before m)) [
      | inl old ↦ (members m).1 (inl ((in_without before (without before after) m).1 (
        old,
        false_from_ne_true (is_in (without before after) m) (λ gone.
            both_ways (is_in after m) ((in_without before after m).0 (is_in_contains (without before after) m gone)).1 here),
      )))
      | inr fresh ↦ (members m).1 (inr ((in_without after before m).1 (here, fresh)))
    ])
