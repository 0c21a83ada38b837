-- What is written name by name is found beside the names.
use Rattle.std.proofs.Common.{◌≡◌, ◌∙◌, ℕ, ◌<◌, true, List, Contains, length, map, get_or, sym, ap, subst, inl, inr, arith}
use Rattle.std.proofs.lemmas.List.{get_or_default, get_or-map}
use Rattle.std.proofs.lemmas.List.Elements.{Contains-get_or}
use Rattle.rw_spec.specs.Ascending.{ascends}
use Rattle.rw_spec.specs.Instance.{look}
use Rattle.rw_spec.proofs.Ascending.{ascends_distinct}
use Rattle.rw_spec.proofs.Look.{look_at, look_missing}
use Rattle.rw_columns.specs.Changes.{beside}
use Rattle.rw_columns.specs.inner.Written.{IsWritten, replaced}
use Rattle.rw_columns.proofs.Kept.{among_or_not}

-- where all names are done, the entries are found beside them, and elsewhere what was there
pub looked : {A : Type 0} (names : List ℕ) (entries : List A) (entry : ℕ → A) (old new : ℕ → A) → ascends names ≡ true
    → ((k : ℕ) (d : A) → k < length names → get_or entries k d ≡ entry k)
    → IsWritten (λ k. k < length names) names entry old new → (x : ℕ) → new x ≡ look (old x) names entries x
looked names entries entry old new up exact written x =
    elim (among_or_not names x) [
      | inl (k, within, there) ↦
          subst (λ (y : ℕ). new y ≡ look (old x) names entries y) (get_or_default names k 0 x within ∙ there)
          (written.beside k within ∙ sym (exact k (old x) within) ∙ sym (look_at (old x) names entries k (ascends_distinct names up) within))
      | inr missing ↦
          written.elsewhere x (λ k within same. missing (subst (Contains names) same (Contains-get_or names k 0 within)))
          ∙ sym (look_missing (old x) names entries x missing)
    ]

-- the same entry beside each name
pub each_same : {A : Type 0} (names : List ℕ) (entry : A) (k : ℕ) (d : A) → k < length names → get_or (map (λ name. entry) names) k d ≡ entry
each_same names entry k d within = get_or-map (λ name. entry) names k 0 d within

-- one entry beside each name
pub each_beside : {A : Type 0} (names : List ℕ) (entries : List A) (none : A) → length entries ≡ length names → (k : ℕ) (d : A) → k < length names
    → get_or entries k d ≡ get_or entries k none
each_beside names entries none long k d within = let count : k < length entries = omega (arith, long, within) in get_or_default entries k d none count

-- names are taken off, entries are written, and names are added
pub replaced_by : {A : Type 0} (none : A) (removed : List ℕ) (entries : List (ℕ × A)) (added : List ℕ) (values : List A) (old off led on : ℕ → A)
    → ((x : ℕ) → off x ≡ look (old x) removed (map (λ name. none) removed) x) → ((x : ℕ) → led x ≡ beside (off x) entries x)
    → ((x : ℕ) → on x ≡ look (led x) added values x) → (x : ℕ) → on x ≡ replaced none removed entries added values (old x) x
replaced_by {A} none removed entries added values old off led on taken written put x =
    put x
    ∙ ap (λ (entry : A). look entry added values x) (written x)
    ∙ ap (λ (entry : A). look (beside entry entries x) added values x) (taken x)
