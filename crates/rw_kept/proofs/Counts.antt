-- The matches without a changed name are one list before and after; so numbers of extensions are kept by what goes and comes.
use Rattle.std.proofs.Common.{◌≡◌, ℕ, ◌+◌, Bool, true, false, not, List, [], ◌∷◌, Contains, filter, length, refl, ap, arith}
use Rattle.std.specs.Cmp.Lexicographic.{slice_cmp}
use Rattle.std.specs.Ordering.{nat_cmp}
use Rattle.std.proofs.lemmas.Bool.{not-true}
use Rattle.std.proofs.lemmas.Cmp.{nat_list_cmp_total}
use Rattle.std.proofs.lemmas.List.Kept.{IsStrictlySortedBy-filter}
use Rattle.rw_schema.specs.Signature.{Signature}
use Rattle.rw_spec.specs.Instance.{Instance}
use Rattle.rw_spec.proofs.Sequences.{contains_filter, contained_in_filter}
use Rattle.rw_pattern.specs.Matches.{matches}
use Rattle.rw_pattern.specs.PatternFaults.{IsPatternOf}
use Rattle.rw_pattern.specs.PatternLists.{PatternLists}
use Rattle.rw_rule.specs.RuleLists.{ConditionLists, GoalLists}
use Rattle.rw_kept.specs.Changed.{Survives, IsChange, goes_through, matches_through, matches_apart}
use Rattle.rw_kept.specs.Conditions.{joined, extends_tuple, all_extensions, extensions, IsGoal}
use Rattle.rw_kept.proofs.Locality.{match_survives}
use Rattle.rw_spec.proofs.OneOrder.{one_order}
use Rattle.rw_kept.proofs.Refresh.{joined_of}
use Rattle.rw_kept.proofs.Through.{Ascends, matches_ascend}

-- a match without a name that goes is one without a name that comes
apart_there : (C : Signature) (pattern : PatternLists) (monic : List Bool) (X Y : Instance) (out into : ℕ → List ℕ) → IsPatternOf C pattern → Survives C X Y out into
    → (tuple : List ℕ) → Contains (matches_apart C pattern monic X out) tuple → Contains (matches_apart C pattern monic Y into) tuple
apart_there C pattern monic X Y out into is survives tuple there =
    let kept = contained_in_filter (λ tuple. not (goes_through out pattern tuple)) (matches C pattern monic X) tuple there in
    let after = match_survives C pattern monic X Y out into tuple is survives kept.0 (not-true (goes_through out pattern tuple) kept.1) in
    contains_filter (λ tuple. not (goes_through into pattern tuple)) (matches C pattern monic Y) tuple after.0 (ap not after.1)

-- the matches without a changed name are one list
pub apart_same : (C : Signature) (pattern : PatternLists) (monic : List Bool) (X Y : Instance) (out into : ℕ → List ℕ) → IsPatternOf C pattern → IsChange C X Y out into
    → Ascends X → Ascends Y → matches_apart C pattern monic X out ≡ matches_apart C pattern monic Y into
apart_same C pattern monic X Y out into is change X_up Y_up =
    one_order (slice_cmp nat_cmp) nat_list_cmp_total (matches_apart C pattern monic X out) (matches_apart C pattern monic Y into)
    (IsStrictlySortedBy-filter (slice_cmp nat_cmp) (λ tuple. not (goes_through out pattern tuple)) (matches C pattern monic X) (matches_ascend C pattern monic X X_up))
    (IsStrictlySortedBy-filter (slice_cmp nat_cmp) (λ tuple. not (goes_through into pattern tuple)) (matches C pattern monic Y) (matches_ascend C pattern monic Y Y_up))
    (apart_there C pattern monic X Y out into is change.there)
    (apart_there C pattern monic Y X into out is change.back)

-- of the items that pass one test, those that pass another and those that fail it
pub split_count : {A : Type 0} (p q : A → Bool) (xs : List A)
    → length (filter p xs) ≡ length (filter p (filter q xs)) + length (filter p (filter (λ x. not (q x)) xs))
split_count p q [] = refl
split_count p q (x ∷ xs) = counted p q x xs (p x) (q x) refl refl (split_count p q xs)
  where
    counted : {A : Type 0} (p q : A → Bool) (x : A) (xs : List A) (passes through : Bool) → p x ≡ passes → q x ≡ through
        → length (filter p xs) ≡ length (filter p (filter q xs)) + length (filter p (filter (λ x. not (q x)) xs))
        → length (filter p (x ∷ xs)) ≡ length (filter p (filter q (x ∷ xs))) + length (filter p (filter (λ x. not (q x)) (x ∷ xs)))
    counted p q x xs true true passes through rest = rw (passes, through) (rw passes (omega (arith, rest)))
    counted p q x xs true false passes through rest = rw (passes, through) (rw passes (omega (arith, rest)))
    counted p q x xs false true passes through rest = rw (passes, through) (rw passes rest)
    counted p q x xs false false passes through rest = rw (passes, through) (rw passes rest)

-- the number of extensions of one match after a change, with those that went, is the number before, with those that came
pub extensions_counted : (C : Signature) (goal : GoalLists) (condition : ConditionLists) (X Y : Instance) (out into : ℕ → List ℕ) → IsGoal C goal → Contains goal.conditions condition
    → IsChange C X Y out into → Ascends X → Ascends Y → (m : List ℕ)
    → length (extensions C goal.left condition Y m) + length (filter (extends_tuple goal.left condition m) (matches_through C (joined goal.left condition) condition.monic X out))
    ≡ length (extensions C goal.left condition X m) + length (filter (extends_tuple goal.left condition m) (matches_through C (joined goal.left condition) condition.monic Y into))
extensions_counted C goal condition X Y out into is among change X_up Y_up m =
    let pattern : PatternLists = joined goal.left condition in
    let test : List ℕ → Bool = extends_tuple goal.left condition m in
    let before = split_count test (goes_through out pattern) (all_extensions C goal.left condition X) in
    let after = split_count test (goes_through into pattern) (all_extensions C goal.left condition Y) in
    let same : length (filter test (matches_apart C pattern condition.monic X out)) ≡ length (filter test (matches_apart C pattern condition.monic Y into)) =
    ap (λ (xs : List (List ℕ)). length (filter test xs)) (apart_same C pattern condition.monic X Y out into (joined_of C goal condition is among) change X_up Y_up) in
    omega (arith, before, after, same)
