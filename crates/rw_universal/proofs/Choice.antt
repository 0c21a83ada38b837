-- Maps from choices: membership among names is decided, so where each part has some number, one map gives them.
use Rattle.std.proofs.Common.{◌⊎◌, ℕ, ◌<◌, List, Contains, inl, inr, arith}
use Rattle.std.specs.List.{list_any}
use Rattle.std.specs.Prelude.{◌==◌}
use Rattle.std.proofs.lemmas.Bool.{both_ways, cases_Bool, cases_lt}
use Rattle.rw_spec.proofs.Look.{contains_found, found_contained}

-- a number stands among the names, or not
among : (names : List ℕ) (x : ℕ) → Contains names x ⊎ (Contains names x → ⊥)
among names x =
    let found = list_any (λ name. name == x) names in
    elim (cases_Bool found) [
      | inl so ↦ inl (contains_found names x so)
      | inr fails ↦ inr (λ there. both_ways found fails (found_contained names x there))
    ]

-- a number is a name of an object of the schema, or not
is_part : (n : ℕ) (names : ℕ → List ℕ) (object x : ℕ)
    → ((object < n) × Contains (names object) x) ⊎ ((object < n) × Contains (names object) x → ⊥)
is_part n names object x =
    elim (cases_lt object n) [
      | inl below ↦ elim (among (names object) x) [ inl there ↦ inl (below, there) | inr missing ↦ inr (λ part. missing part.1) ]
      | inr above ↦ inr (λ part. omega (arith, part.0))
    ]

-- where a fact is decided, and with it comes some number, there is a number that serves where the fact holds
choose_one : {A : Type 0} (P : ℕ → Type 0) → A ⊎ (A → ⊥) → (A → (w : ℕ) × P w) → (w : ℕ) × (A → P w)
choose_one P (inl here) each = ((each here).0, λ there. (each here).1)
choose_one P (inr missing) each = (0, λ there. absurd (missing there))

-- where for each part there is some number, there is a map
pub choose : (n : ℕ) (names : ℕ → List ℕ) (P : ℕ → ℕ → ℕ → Type 0)
    → ((object x : ℕ) → object < n → Contains (names object) x → (w : ℕ) × P object x w)
    → (u : ℕ → ℕ → ℕ) × ((object x : ℕ) → object < n → Contains (names object) x → P object x (u object x))
choose n names P each =
    let chosen : (object x : ℕ) → (w : ℕ) × ((object < n) × Contains (names object) x → P object x w) =
    λ object x. choose_one (P object x) (is_part n names object x) (λ part. each object x part.0 part.1) in
    (λ object x. (chosen object x).0, λ object x below there. (chosen object x).1 (below, there))
