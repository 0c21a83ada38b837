-- Entries in another order.
use Rattle.std.proofs.Common.{◌≡◌, ◌≢◌, ◌∙◌, ◌⊎◌, ℕ, ◌<◌, List, length, get_or, slice_index, swap, All, IsPermutation, refl, sym, ap, subst, inl, inr, arith}
use Rattle.std.proofs.lemmas.Bool.{cases_eq}
use Rattle.std.proofs.lemmas.List.{get_or-map}
use Rattle.std.proofs.lemmas.List.Edits.{Swapped, swapped_from_swap, length-swap}
use Rattle.std.proofs.lemmas.List.Sorted.{IsPermutation-keeps, IsPermutation-map, IsPermutation-sym, All-permutation}
use Rattle.rw_spec.specs.Distinct.{AreDistinct}
use Rattle.rw_columns.specs.Changes.{entry_names, entry_values}
use Rattle.rw_columns.specs.inner.Written.{IsWritten}

-- k is the place that the item at m comes from, where those at a and b change places
abbrev ComesFrom : ℕ → ℕ → ℕ → ℕ → Type 0
ComesFrom a b m k = ((m ≡ a) × (k ≡ b)) ⊎ (((m ≡ b) × (k ≡ a)) ⊎ ((m ≢ a) × (m ≢ b) × (k ≡ m)))

-- each item comes from some place
origin : (old new : ℕ → ℕ) (a b m : ℕ) → Swapped old new a b → (k : ℕ) × ComesFrom a b m k × (new m ≡ old k)
origin old new a b m swapped =
    elim (cases_eq m a) [
      | inl first ↦ (b, inl (first, refl), ap new first ∙ swapped.0)
      | inr apart ↦ elim (cases_eq m b) [
        | inl second ↦ (a, inr (inl (second, refl)), ap new second ∙ swapped.1)
        | inr other ↦ (m, inr (inr (apart, other, refl)), swapped.2 m apart other)
      ]
    ]

-- names that differ do so after two of them change places
distinct_swapped : (names : List ℕ) (a b : ℕ) → a < length names → b < length names → AreDistinct names → AreDistinct (swap names a b)
distinct_swapped names a b a_within b_within distinct i j i_within j_within same =
    let long = length-swap names a b in
    let swapped = swapped_from_swap names (swap names a b) a b 0 a_within b_within refl in
    let x = origin (λ k. get_or names k 0) (λ k. get_or (swap names a b) k 0) a b i swapped in
    let y = origin (λ k. get_or names k 0) (λ k. get_or (swap names a b) k 0) a b j swapped in
    let equal : x.0 ≡ y.0 = distinct x.0 y.0 (omega (arith, x.1, long)) (omega (arith, y.1, long)) (sym x.2 ∙ same ∙ y.2) in
    omega (arith, x.1, y.1, equal)

-- and in any other order
pub distinct_permuted : (rows moved : List (ℕ × ℕ)) → IsPermutation rows moved → AreDistinct (entry_names rows) → AreDistinct (entry_names moved)
distinct_permuted rows moved is distinct =
    IsPermutation-keeps (entry_names rows) AreDistinct distinct distinct_swapped (entry_names moved) (IsPermutation-map (λ (entry : ℕ × ℕ). entry.0) rows moved is)

-- what holds of each name and the value beside it does so in another order
pub each_permuted : (P : ℕ → ℕ → Type 0) (rows moved : List (ℕ × ℕ)) → IsPermutation rows moved
    → ((k : ℕ) → k < length rows → P (slice_index (entry_names rows) k) (slice_index (entry_values rows) k))
    → (k : ℕ) → k < length moved → P (slice_index (entry_names moved) k) (slice_index (entry_values moved) k)
each_permuted P rows moved is each k within =
    let all : All (λ (entry : ℕ × ℕ). P entry.0 entry.1) rows = λ j none j_within.
    subst (λ (name : ℕ). P name (get_or rows j none).1) (get_or-map (λ (entry : ℕ × ℕ). entry.0) rows j none 0 j_within)
    (subst (P (slice_index (entry_names rows) j)) (get_or-map (λ (entry : ℕ × ℕ). entry.1) rows j none 0 j_within) (each j j_within)) in
    let entry = get_or moved k (0, 0) in
    let here : P entry.0 entry.1 = All-permutation (λ (item : ℕ × ℕ). P item.0 item.1) rows moved is all k (0, 0) within in
    subst (λ (name : ℕ). P name (slice_index (entry_values moved) k)) (sym (get_or-map (λ (item : ℕ × ℕ). item.0) moved k (0, 0) 0 within))
    (subst (P entry.0) (sym (get_or-map (λ (item : ℕ × ℕ). item.1) moved k (0, 0) 0 within)) here)

-- rows that are written in another order are written
pub written_permuted : (rows moved : List (ℕ × ℕ)) (old new : ℕ → ℕ) → IsPermutation rows moved
    → IsWritten (λ k. k < length moved) (entry_names moved) (slice_index (entry_values moved)) old new
    → IsWritten (λ k. k < length rows) (entry_names rows) (slice_index (entry_values rows)) old new
written_permuted rows moved old new is written = record {
  beside = each_permuted (λ (name value : ℕ). new name ≡ value) moved rows (IsPermutation-sym rows moved is) written.beside;
  elsewhere = λ x none. written.elsewhere x (each_permuted (λ (name value : ℕ). name ≢ x) rows moved is none);
}
