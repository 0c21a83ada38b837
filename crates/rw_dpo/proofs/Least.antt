-- The first of some numbers that passes a test.
use Rattle.std.proofs.Common.{◌≡◌, ℕ, ◌<◌, ◌+◌, Bool, true, false, not, ◌&&◌, ◌||◌, nat_lt, List, [], ◌∷◌, filter, find, Option, Some, None, option_map, refl, inl, inr, arith}
use Rattle.std.proofs.lemmas.Bool.{cases_Bool, false_from_ne_true, lt-ltb, ltb-true}
use Rattle.rw_schema.specs.First.{fault_unless, first_in}
use Rattle.rw_spec.specs.Ascending.{ascends}
use Rattle.rw_spec.proofs.Ascending.{ascends_rest, first_below}
use Rattle.rw_complement.proofs.Tests.{found_is}
use Rattle.rw_dpo.specs.inner.Dangling.{lesser}

-- the first of those that pass one test that passes another is the first that passes both
pub find_filter : (p q r : ℕ → Bool) (xs : List ℕ) → ((x : ℕ) → r x ≡ (q x && p x)) → find p (filter q xs) ≡ find r xs
find_filter p q r [] same = refl
find_filter p q r (x ∷ xs) same =
    elim (cases_Bool (q x)) [
      | inl first ↦
          elim (cases_Bool (p x)) [
            | inl passes ↦ rw (same x, first, passes) refl
            | inr fails ↦ rw (same x, first, fails) (find_filter p q r xs same)
          ]
      | inr missed ↦ rw (same x, missed) (find_filter p q r xs same)
    ]

-- a number and itself
lesser_same : (x : ℕ) → lesser (Some x) (Some x) ≡ Some x
lesser_same x =
    elim (cases_Bool (nat_lt x x)) [
      | inl less ↦ rw less refl
      | inr not_less ↦ rw not_less refl
    ]

-- a number and nothing that is less
lesser_first : (x : ℕ) (found : Option ℕ) → ((y : ℕ) → found ≡ Some y → x < y) → lesser (Some x) found ≡ Some x
lesser_first x None above = refl
lesser_first x (Some y) above =
    let above_y : x < y = above y refl in
    let not_less : nat_lt y x ≡ false = false_from_ne_true (nat_lt y x) (λ less. let below : y < x = ltb-true y x less in omega arith) in
    rw not_less refl

-- nothing that is less, and a number
lesser_second : (x : ℕ) (found : Option ℕ) → ((y : ℕ) → found ≡ Some y → x < y) → lesser found (Some x) ≡ Some x
lesser_second x None above = refl
lesser_second x (Some y) above = rw (lt-ltb x y (above y refl)) refl

-- of ascending numbers, the lesser of the first that pass two tests is the first that passes one of them
pub find_lesser : (p q r : ℕ → Bool) (xs : List ℕ) → ascends xs ≡ true → ((x : ℕ) → r x ≡ (p x || q x)) → lesser (find p xs) (find q xs) ≡ find r xs
find_lesser p q r [] up same = refl
find_lesser p q r (x ∷ xs) up same =
    elim (cases_Bool (p x)) [
      | inl first ↦
          elim (cases_Bool (q x)) [
            | inl second ↦ rw (same x, first, second) (lesser_same x)
            | inr other ↦ rw (same x, first, other) (lesser_first x (find q xs) (λ y found. first_below x xs y up (found_is q xs y found).0))
          ]
      | inr none ↦
          elim (cases_Bool (q x)) [
            | inl second ↦ rw (same x, none, second) (lesser_second x (find p xs) (λ y found. first_below x xs y up (found_is p xs y found).0))
            | inr other ↦ rw (same x, none, other) (find_lesser p q r xs (ascends_rest x xs up) same)
          ]
    ]

-- the first fault of those that fail a test is the fault of the first of them
pub first_found : {A : Type 0} (fault : ℕ → A) (test : ℕ → Bool) (i : ℕ) (xs : List ℕ)
    → first_in (λ place x. fault_unless (not (test x)) (fault x)) i xs ≡ option_map fault (find test xs)
first_found fault test i [] = refl
first_found fault test i (x ∷ xs) =
    elim (cases_Bool (test x)) [
      | inl passes ↦ rw passes refl
      | inr fails ↦ rw fails (first_found fault test (i + 1) xs)
    ]
