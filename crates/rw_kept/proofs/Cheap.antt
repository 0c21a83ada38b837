-- What a refresh computes of one suspect: from what is kept, and from the matches with a changed name.
use Rattle.std.proofs.Common.{◌≡◌, ◌+◌, ◌-◌, ℕ, suc, Bool, true, false, not, ◌&&◌, ◌||◌, nat_lt, List, [], ◌∷◌, Contains, filter, length, refl, sym, ap, ◌∙◌, inl, inr, arith}
use Rattle.std.specs.List.{list_any}
use Rattle.std.proofs.lemmas.Bool.{and_parts, and_from, or_cases, or_left, or_right, lt-ltb}
use Rattle.rw_schema.specs.Signature.{Signature}
use Rattle.rw_spec.specs.Instance.{Instance}
use Rattle.rw_spec.proofs.Sequences.{contains_filter, contained_in_filter}
use Rattle.rw_pattern.specs.Matches.{matches}
use Rattle.rw_pattern.specs.PatternFaults.{IsPatternOf}
use Rattle.rw_pattern.specs.PatternLists.{PatternLists}
use Rattle.rw_rule.specs.RuleLists.{ConditionLists, GoalLists}
use Rattle.rw_kept.specs.Changed.{IsChange, goes_through, matches_through}
use Rattle.rw_kept.specs.Conditions.{joined, extends_tuple, all_extensions, extensions, has_extension, is_admissible, fresh_list, IsGoal}
use Rattle.rw_kept.specs.Refreshed.{is_in}
use Rattle.rw_kept.proofs.Counts.{extensions_counted}
use Rattle.rw_kept.proofs.Refresh.{one_test}
use Rattle.rw_kept.proofs.Sought.{contains_is_in, is_in_contains}
use Rattle.rw_kept.proofs.Through.{Ascends, matches_after}

-- a tuple is in the list where it is a match and admissible
pub fresh_is : (C : Signature) (goal : GoalLists) (X : Instance) (m : List ℕ)
    → is_in (fresh_list C X goal) m ≡ (is_in (matches C goal.left goal.monic X) m && is_admissible C goal X m)
fresh_is C goal X m =
    let left : List (List ℕ) = matches C goal.left goal.monic X in
    one_test (is_in (fresh_list C X goal) m) (is_in left m && is_admissible C goal X m)
    (λ there.
    let kept = contained_in_filter (is_admissible C goal X) left m (is_in_contains (fresh_list C X goal) m there) in
    and_from (is_in left m) (is_admissible C goal X m) (contains_is_in left m kept.0) kept.1)
    (λ both.
    let parts = and_parts (is_in left m) (is_admissible C goal X m) both in
    contains_is_in (fresh_list C X goal) m (contains_filter (is_admissible C goal X) left m (is_in_contains left m parts.0) parts.1))

-- a tuple is a match after where it is one before without a name that goes, or is found through a name that comes
pub match_is : (C : Signature) (pattern : PatternLists) (monic : List Bool) (X Y : Instance) (out into : ℕ → List ℕ) → IsPatternOf C pattern → IsChange C X Y out into → (m : List ℕ)
    → is_in (matches C pattern monic Y) m
    ≡ ((is_in (matches C pattern monic X) m && not (goes_through out pattern m)) || is_in (matches_through C pattern monic Y into) m)
match_is C pattern monic X Y out into is change m =
    let before : List (List ℕ) = matches C pattern monic X in
    let after : List (List ℕ) = matches C pattern monic Y in
    let through : List (List ℕ) = matches_through C pattern monic Y into in
    let stays : Bool = is_in before m && not (goes_through out pattern m) in
    one_test (is_in after m) (stays || is_in through m)
    (λ there. elim ((matches_after C pattern monic X Y out into is change m).0 (is_in_contains after m there)) [
      | inl apart ↦
          let kept = contained_in_filter (λ tuple. not (goes_through out pattern tuple)) before m apart in
          or_left stays (is_in through m) (and_from (is_in before m) (not (goes_through out pattern m)) (contains_is_in before m kept.0) kept.1)
      | inr comes ↦ or_right stays (is_in through m) (contains_is_in through m comes)
    ])
    (λ either. elim (or_cases stays (is_in through m) either) [
      | inl old ↦
          let parts = and_parts (is_in before m) (not (goes_through out pattern m)) old in
          contains_is_in after m ((matches_after C pattern monic X Y out into is change m).1
          (inl (contains_filter (λ tuple. not (goes_through out pattern tuple)) before m (is_in_contains before m parts.0) parts.1)))
      | inr comes ↦ contains_is_in after m ((matches_after C pattern monic X Y out into is change m).1 (inr (is_in_contains through m comes)))
    ])

-- an item passes where some pass
pub any_counted : {A : Type 0} (p : A → Bool) (xs : List A) → list_any p xs ≡ nat_lt 0 (length (filter p xs))
any_counted p [] = refl
any_counted p (x ∷ xs) = counted p x xs (p x) refl (any_counted p xs)
  where
    counted : {A : Type 0} (p : A → Bool) (x : A) (xs : List A) (passes : Bool) → p x ≡ passes → list_any p xs ≡ nat_lt 0 (length (filter p xs))
        → list_any p (x ∷ xs) ≡ nat_lt 0 (length (filter p (x ∷ xs)))
    counted p x xs true passes rest = rw passes (sym (lt-ltb 0 (suc (length (filter p xs))) (omega arith)))
    counted p x xs false passes rest = rw passes rest

-- the number of extensions of one match
abbrev pub number_of_extensions : Signature → PatternLists → ConditionLists → Instance → List ℕ → ℕ
number_of_extensions C left condition X m = length (extensions C left condition X m)

-- those among given tuples
abbrev pub number_among : PatternLists → ConditionLists → List ℕ → List (List ℕ) → ℕ
number_among left condition m tuples = length (filter (extends_tuple left condition m) tuples)

-- a match has an extension after the change where the number that is kept, without what went and with what came, is not 0
pub has_extension_after : (C : Signature) (goal : GoalLists) (condition : ConditionLists) (X Y : Instance) (out into : ℕ → List ℕ) → IsGoal C goal → Contains goal.conditions condition
    → IsChange C X Y out into → Ascends X → Ascends Y → (m : List ℕ)
    → has_extension C goal.left condition Y m
    ≡ nat_lt 0 (number_of_extensions C goal.left condition X m + number_among goal.left condition m (matches_through C (joined goal.left condition) condition.monic Y into)
    - number_among goal.left condition m (matches_through C (joined goal.left condition) condition.monic X out))
has_extension_after C goal condition X Y out into is among change X_up Y_up m =
    let count = extensions_counted C goal condition X Y out into is among change X_up Y_up m in
    let same : number_of_extensions C goal.left condition Y m
    ≡ number_of_extensions C goal.left condition X m + number_among goal.left condition m (matches_through C (joined goal.left condition) condition.monic Y into)
    - number_among goal.left condition m (matches_through C (joined goal.left condition) condition.monic X out) =
    omega (arith, count) in
    any_counted (extends_tuple goal.left condition m) (all_extensions C goal.left condition Y) ∙ ap (nat_lt 0) same
