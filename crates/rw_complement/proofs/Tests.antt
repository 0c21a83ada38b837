-- Tests of names and of cells.
use Rattle.std.proofs.Common.{◌≡◌, ℕ, Bool, true, false, cond, Contains, List, [], ◌∷◌, Option, Some, None, refl, sym, ap, subst, inl, inr, arith}
use Rattle.std.specs.List.{list_any, list_all, find}
use Rattle.std.specs.Option.{is_some, is_none}
use Rattle.std.proofs.lemmas.Bool.{and_cases, both_ways, cases_Bool, false_from_ne_true, or_cases}
use Rattle.std.proofs.lemmas.List.Folds.{Any-from_list_any, list_any_at}
use Rattle.rw_spec.proofs.Look.{contains_cases}
use Rattle.rw_spec.proofs.Sequences.{contains_first, contains_here, contains_later}

-- a name that passes a test that some name passes
pub some_from : (test : ℕ → Bool) (names : List ℕ) → list_any test names ≡ true → (x : ℕ) × Contains names x × (test x ≡ true)
some_from test names some =
    let found = Any-from_list_any test names some in
    (found.1, (found.0, found.2, found.3), found.4)

-- some name passes a test that a name passes
pub some_at : (test : ℕ → Bool) (names : List ℕ) (x : ℕ) → Contains names x → test x ≡ true → list_any test names ≡ true
some_at test names x (k, within, is) passes = list_any_at test names k x within (subst (λ (y : ℕ). test y ≡ true) (sym is) passes)

-- no name passes a test that no name passes
pub none_of : (test : ℕ → Bool) (names : List ℕ) → ((x : ℕ) → Contains names x → test x ≡ true → ⊥) → list_any test names ≡ false
none_of test names each =
    false_from_ne_true (list_any test names) (λ some. let found = some_from test names some in each found.0 found.1 found.2)

-- something is there where a test for it passes
pub there_is : {A : Type 0} (answer : Option A) → is_some answer ≡ true → (a : A) × (answer ≡ Some a)
there_is None some = let no : ⊥ = cc in absurd no
there_is (Some a) some = (a, refl)

-- what is shown where a test passes is there, and the test passes
pub shown : {A : Type 0} (test : Bool) (answer : Option A) (a : A) → cond test answer None ≡ Some a → (test ≡ true) × (answer ≡ Some a)
shown true answer a is = (refl, is)
shown false answer a is = let no : ⊥ = cc in absurd no

-- what is shown where a test fails is there, and the test fails
pub not_hidden : {A : Type 0} (test : Bool) (answer : Option A) (a : A) → cond test None answer ≡ Some a → (test ≡ false) × (answer ≡ Some a)
not_hidden true answer a is = let no : ⊥ = cc in absurd no
not_hidden false answer a is = (refl, is)

-- two things that are there are one where they are equal
pub same_some : {A : Type 0} (answer : Option A) (a b : A) → answer ≡ Some a → answer ≡ Some b → a ≡ b
same_some answer a b first second = cc

-- the first name that passes is the one that passes alone
pub find_only : (test : ℕ → Bool) (names : List ℕ) (x : ℕ) → Contains names x → test x ≡ true → ((y : ℕ) → Contains names y → test y ≡ true → y ≡ x) → find test names ≡ Some x
find_only test [] x there passes only = absurd (omega (arith, there.1))
find_only test (y ∷ names) x there passes only =
    elim (cases_Bool (test y)) [
      | inl here ↦ rw here (ap Some (only y (contains_here y names) here))
      | inr fails ↦ rw fails (elim (contains_cases y names x there) [
        | inl same ↦ absurd (both_ways (test y) fails (subst (λ (z : ℕ). test z ≡ true) (sym same) passes))
        | inr later ↦ find_only test names x later passes (λ z has passed. only z (contains_later y names z has) passed)
      ])
    ]

-- nothing is found where no name passes
pub find_none : (test : ℕ → Bool) (names : List ℕ) → ((y : ℕ) → Contains names y → test y ≡ true → ⊥) → find test names ≡ None
find_none test [] none = refl
find_none test (y ∷ names) none =
    elim (cases_Bool (test y)) [
      | inl here ↦ absurd (none y (contains_here y names) here)
      | inr fails ↦ rw fails (find_none test names (λ z has passed. none z (contains_later y names z has) passed))
    ]

-- where a test passes for some name, one that passes is found
pub found_some : (test : ℕ → Bool) (names : List ℕ) → list_any test names ≡ true → (x : ℕ) × (find test names ≡ Some x) × Contains names x × (test x ≡ true)
found_some test [] some = let no : ⊥ = cc in absurd no
found_some test (y ∷ names) some =
    elim (cases_Bool (test y)) [
      | inl here ↦ (y, (rw here refl), contains_here y names, here)
      | inr fails ↦
          elim (or_cases (test y) (list_any test names) some) [
            | inl here ↦ absurd (both_ways (test y) fails here)
            | inr later ↦
                let found = found_some test names later in
                (found.0, (rw fails found.1), contains_later y names found.0 found.2, found.3)
          ]
    ]

-- what is found passes the test, and is there
pub found_is : (test : ℕ → Bool) (names : List ℕ) (x : ℕ) → find test names ≡ Some x → Contains names x × (test x ≡ true)
found_is test [] x is = let no : ⊥ = cc in absurd no
found_is test (y ∷ names) x is =
    elim (cases_Bool (test y)) [
      | inl here ↦
          let same : Some y ≡ Some x = rw here at is in
          let one : y ≡ x = cc in
          (contains_first y x names one, subst (λ (z : ℕ). test z ≡ true) one here)
      | inr fails ↦
          let later : find test names ≡ Some x = rw fails at is in
          let found = found_is test names x later in
          (contains_later y names x found.0, found.1)
    ]

-- a name fails a test that not all names pass
pub fails_at : (test : ℕ → Bool) (names : List ℕ) → list_all test names ≡ false → (x : ℕ) × Contains names x × (test x ≡ false)
fails_at test [] fails = let no : ⊥ = cc in absurd no
fails_at test (y ∷ names) fails =
    elim (and_cases (test y) (list_all test names) fails) [
      | inl here ↦ (y, contains_here y names, here)
      | inr later ↦ let found = fails_at test names later in (found.0, contains_later y names found.0 found.1, found.2)
    ]

-- something is there where a test for nothing fails
pub not_none : {A : Type 0} (answer : Option A) → is_none answer ≡ false → (a : A) × (answer ≡ Some a)
not_none None fails = let no : ⊥ = cc in absurd no
not_none (Some a) fails = (a, refl)

-- answers are one where each gives what the other gives
pub same_answer : {A : Type 0} (first second : Option A) → ((a : A) → first ≡ Some a → second ≡ Some a) → ((a : A) → second ≡ Some a → first ≡ Some a) → first ≡ second
same_answer None None onward back = refl
same_answer None (Some b) onward back = back b refl
same_answer (Some a) second onward back = sym (onward a refl)
