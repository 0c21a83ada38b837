-- Tests that fail, and where.
use Rattle.std.proofs.Common.{◌≡◌, ◌==◌, ◌+◌, ℕ, zero, suc, Bool, true, false, inl, inr, Option, Some, None, List, [], ◌∷◌, slice_get, option_and_then, option_map, refl, sym, ap, add-zero, arith}
use Rattle.std.specs.List.{list_all, list_any}
use Rattle.std.proofs.lemmas.Bool.{cases_Bool, eq-eqb, eqb-true}
use Rattle.std.proofs.lemmas.Option.{slice_get_within, get_or_from_slice_get, same_Some}
use Rattle.rw_schema.specs.First.{all_in, map_in, first_in, fault_unless, or_else}
use Rattle.rw_doc.specs.Chain.{all_some}
use Rattle.rw_doc.proofs.Listed.{none_at}

-- something that fails a test stands where not all pass it
pub one_fails : {A : Type 0} (test : A → Bool) (xs : List A) → list_all test xs ≡ false → (place : ℕ) × (x : A) × (slice_get xs place ≡ Some x) × (test x ≡ false)
one_fails test [] fails = let never : ⊥ = cc in absurd never
one_fails test (x ∷ xs) fails = elim (cases_Bool (test x)) [
  | inl passes ↦ let later = one_fails test xs (rw passes at fails) in (suc later.0, later.1, later.2, later.3)
  | inr here ↦ (0, x, refl, here)
]

-- the same, with places
pub one_fails_in : {A : Type 0} (test : ℕ → A → Bool) (i : ℕ) (xs : List A) → all_in test i xs ≡ false → (place : ℕ) × (x : A) × (slice_get xs place ≡ Some x) × (test (i + place) x ≡ false)
one_fails_in test i [] fails = let never : ⊥ = cc in absurd never
one_fails_in test i (x ∷ xs) fails = elim (cases_Bool (test i x)) [
  | inl passes ↦
      let later = one_fails_in test (i + 1) xs (rw passes at fails) in
      let same : (i + 1) + later.0 ≡ i + suc later.0 = omega arith in
      (suc later.0, later.1, later.2, rw same at later.3)
  | inr here ↦ (0, x, refl, rw add-zero here)
]

-- an item that gives nothing stands where not all give something
pub one_gives_nothing : {A B : Type 0} (f : A → Option B) (xs : List A) → all_some f xs ≡ None → (place : ℕ) × (x : A) × (slice_get xs place ≡ Some x) × (f x ≡ None)
one_gives_nothing f [] none = let never : ⊥ = cc in absurd never
one_gives_nothing f (x ∷ xs) none = by_first (f x) refl (all_some f xs) (one_gives_nothing f xs) none
  where
    by_first : (front : Option _) → f x ≡ front → (rest : Option (List _)) → (rest ≡ None → (place : ℕ) × (z : _) × (slice_get xs place ≡ Some z) × (f z ≡ None))
        → option_and_then (λ y. option_map (λ ys. y ∷ ys) rest) front ≡ None → (place : ℕ) × (z : _) × (slice_get (x ∷ xs) place ≡ Some z) × (f z ≡ None)
    by_first None is rest later gone = (0, x, refl, is)
    by_first (Some y) is None later gone = let found = later refl in (suc found.0, found.1, found.2, found.3)
    by_first (Some y) is (Some ys) later gone = let never : ⊥ = cc in absurd never

-- where all give something, none gives nothing
pub all_give : {A B : Type 0} (f : A → Option B) (xs : List A) (ys : List B) (place : ℕ) (x : A) → all_some f xs ≡ Some ys → slice_get xs place ≡ Some x → f x ≡ None → ⊥
all_give f xs ys place x all found none =
    let gone : all_some f xs ≡ None = none_at f xs place x (slice_get_within xs place x found) (sym (get_or_from_slice_get xs place x x found)) none in cc

-- what a map with places has comes from a place
pub from_place : {A B : Type 0} (f : ℕ → A → B) (i : ℕ) (xs : List A) (place : ℕ) (y : B) → slice_get (map_in f i xs) place ≡ Some y
    → (x : A) × (slice_get xs place ≡ Some x) × (f (i + place) x ≡ y)
from_place f i [] place y found = let never : ⊥ = cc in absurd never
from_place f i (x ∷ xs) zero y found = (x, refl, rw add-zero (same_Some (f i x) y found))
from_place f i (x ∷ xs) (suc place) y found =
    let later = from_place f (i + 1) xs place y found in
    let same : (i + 1) + place ≡ i + suc place = omega arith in
    (later.0, later.1, rw same at later.2)

-- a number that a test finds is there
pub number_there : (numbers : List ℕ) (n : ℕ) → list_any (λ other. other == n) numbers ≡ true → (place : ℕ) × (slice_get numbers place ≡ Some n)
number_there [] n any = let never : ⊥ = cc in absurd never
number_there (m ∷ numbers) n any = elim (cases_Bool (m == n)) [
  | inl same ↦ (0, ap (λ k. Some k) (eqb-true m n same))
  | inr other ↦ let later = number_there numbers n (rw other at any) in (suc later.0, later.1)
]

-- a number that is there is found
pub number_found : (numbers : List ℕ) (n place : ℕ) → slice_get numbers place ≡ Some n → list_any (λ other. other == n) numbers ≡ true
number_found [] n place found = let never : ⊥ = cc in absurd never
number_found (m ∷ numbers) n zero found = rw (eq-eqb m n (same_Some m n found)) refl
number_found (m ∷ numbers) n (suc place) found = elim (cases_Bool (m == n)) [
  | inl same ↦ rw same refl
  | inr other ↦ rw other (number_found numbers n place found)
]

-- the first fault in a list stands at a place
pub fault_there : {X A : Type 0} (f : ℕ → X → Option A) (i : ℕ) (xs : List X) (fault : A) → first_in f i xs ≡ Some fault
    → (place : ℕ) × (x : X) × (slice_get xs place ≡ Some x) × (f (i + place) x ≡ Some fault)
fault_there f i [] fault is = let never : ⊥ = cc in absurd never
fault_there f i (x ∷ xs) fault is = by_first (f i x) refl is (fault_there f (i + 1) xs fault)
  where
    by_first : (front : Option _) → f i x ≡ front → or_else front (first_in f (i + 1) xs) ≡ Some fault
        → (first_in f (i + 1) xs ≡ Some fault → (place : ℕ) × (z : _) × (slice_get xs place ≡ Some z) × (f ((i + 1) + place) z ≡ Some fault))
        → (place : ℕ) × (z : _) × (slice_get (x ∷ xs) place ≡ Some z) × (f (i + place) z ≡ Some fault)
    by_first None here later rest =
        let found = rest later in
        let same : (i + 1) + found.0 ≡ i + suc found.0 = omega arith in
        (suc found.0, found.1, found.2, rw same at found.3)
    by_first (Some other) here now rest = (0, x, refl, rw add-zero (rw here now))

-- a fault of a test comes where it fails
pub fault_of_test : {A : Type 0} (test : Bool) (fault given : A) → fault_unless test fault ≡ Some given → (test ≡ false) × (fault ≡ given)
fault_of_test true fault given is = let never : ⊥ = cc in absurd never
fault_of_test false fault given is = (refl, same_Some fault given is)
