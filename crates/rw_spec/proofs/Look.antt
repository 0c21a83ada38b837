-- The entry beside a name.
use Rattle.std.proofs.Common.{◌≡◌, ◌≢◌, ◌⊎◌, ◌==◌, ℕ, zero, suc, ◌<◌, true, List, [], ◌∷◌, length, get_or, refl, ◌∙◌, inl, inr, arith}
use Rattle.std.specs.List.{Contains, list_any}
use Rattle.std.proofs.lemmas.Bool.{eqb-true, eq-eqb, ne_eqb, or_cases, or_left, or_right, cases_eq}
use Rattle.rw_spec.specs.Distinct.{AreDistinct}
use Rattle.rw_spec.specs.Instance.{look}

-- an element stands at the first place, or among the others
pub contains_cases : {X : Type 0} (y : X) (xs : List X) (x : X) → Contains (y ∷ xs) x → (y ≡ x) ⊎ Contains xs x
contains_cases y xs x (zero, within, there) = inl there
contains_cases y xs x (suc k, within, there) = inr (k, omega arith, there)

-- an element of the others is an element of all
contains_more : {X : Type 0} (y : X) (xs : List X) (x : X) → Contains xs x → Contains (y ∷ xs) x
contains_more y xs x (k, within, there) = (suc k, omega arith, there)

-- a name that a test finds is among the names
pub contains_found : (names : List ℕ) (x : ℕ) → list_any (λ name. name == x) names ≡ true → Contains names x
contains_found [] x found = absurd (cc)
contains_found (name ∷ names) x found =
    elim (or_cases (name == x) (list_any (λ other. other == x) names) found) [
      | inl here ↦ (zero, omega arith, eqb-true name x here)
      | inr later ↦ contains_more name names x (contains_found names x later)
    ]

-- a test finds a name that is among the names
pub found_contained : (names : List ℕ) (x : ℕ) → Contains names x → list_any (λ name. name == x) names ≡ true
found_contained [] x (k, within, there) = absurd (omega arith)
found_contained (name ∷ names) x contains =
    elim (contains_cases name names x contains) [
      | inl here ↦ or_left (name == x) (list_any (λ other. other == x) names) (eq-eqb name x here)
      | inr later ↦ or_right (name == x) (list_any (λ other. other == x) names) (found_contained names x later)
    ]

-- where the first name is the one that is looked for, its entry is the answer
look_here : {A : Type 0} (none : A) (name : ℕ) (names : List ℕ) (entry : A) (entries : List A) (x : ℕ)
    → name ≡ x → look none (name ∷ names) (entry ∷ entries) x ≡ entry
look_here none name names entry entries x here = rw (eq-eqb name x here) refl

-- where the first name is another, the answer stands beside the others
look_later : {A : Type 0} (none : A) (name : ℕ) (names : List ℕ) (entry : A) (entries : List A) (x : ℕ)
    → name ≢ x → look none (name ∷ names) (entry ∷ entries) x ≡ look none names entries x
look_later none name names entry entries x other = rw (ne_eqb name x other) refl

-- what is found beside a name is one of the entries
pub look_contains : {A : Type 0} (none : A) (names : List ℕ) (entries : List A) (x : ℕ)
    → length entries ≡ length names → Contains names x → Contains entries (look none names entries x)
look_contains none [] entries x beside (k, within, there) = absurd (omega arith)
look_contains none (name ∷ names) [] x beside contains = absurd (omega arith)
look_contains none (name ∷ names) (entry ∷ entries) x beside contains =
    elim (cases_eq name x) [
      | inl here ↦ rw (look_here none name names entry entries x here) (zero, omega arith, refl)
      | inr other ↦
          rw (look_later none name names entry entries x other)
          (elim (contains_cases name names x contains) [
            | inl here ↦ absurd (other here)
            | inr later ↦ contains_more entry entries (look none names entries x) (look_contains none names entries x (omega arith) later)
          ])
    ]

-- nothing is found beside a name that is not there
pub look_missing : {A : Type 0} (none : A) (names : List ℕ) (entries : List A) (x : ℕ)
    → (Contains names x → ⊥) → look none names entries x ≡ none
look_missing none [] entries x missing = refl
look_missing none (name ∷ names) [] x missing = refl
look_missing none (name ∷ names) (entry ∷ entries) x missing =
    rw (look_later none name names entry entries x (λ here. missing (zero, omega arith, here)))
    (look_missing none names entries x (λ later. missing (contains_more name names x later)))

-- what is found beside a name is the entry at the first place of the name
pub look_first : {A : Type 0} (none : A) (names : List ℕ) (entries : List A) (x k : ℕ)
    → k < length names → get_or names k 0 ≡ x → ((j : ℕ) → j < k → get_or names j 0 ≢ x)
    → look none names entries x ≡ get_or entries k none
look_first none [] entries x k within there before = absurd (omega arith)
look_first none (name ∷ names) [] x k within there before = refl
look_first none (name ∷ names) (entry ∷ entries) x zero within there before = look_here none name names entry entries x there
look_first none (name ∷ names) (entry ∷ entries) x (suc k) within there before =
    look_later none name names entry entries x (before zero (omega arith))
    ∙ look_first none names entries x k (omega arith) there (λ j below. before (suc j) (omega arith))

-- where each name is there once, the entry at a place is beside the name at that place
pub look_at : {A : Type 0} (none : A) (names : List ℕ) (entries : List A) (k : ℕ)
    → AreDistinct names → k < length names → look none names entries (get_or names k 0) ≡ get_or entries k none
look_at none names entries k distinct within =
    look_first none names entries (get_or names k 0) k within refl
    (λ j below same. let equal : j ≡ k = distinct j k (omega arith) within same in absurd (omega arith))
