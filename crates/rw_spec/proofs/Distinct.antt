-- The test for lists in which each name stands once.
use Rattle.std.proofs.Common.{◌≡◌, ◌==◌, ℕ, zero, suc, ◌<◌, true, false, not, List, [], ◌∷◌, length, slice_index, refl, sym, ap, ◌∙◌, arith}
use Rattle.std.specs.List.{list_any}
use Rattle.std.proofs.lemmas.Bool.{and_parts, both_ways, not-true, false_from_ne_true}
use Rattle.std.proofs.lemmas.List.{get_or_default}
use Rattle.rw_spec.specs.Distinct.{AreDistinct, are_distinct}
use Rattle.rw_spec.proofs.Look.{contains_found, found_contained}

-- the first name does not stand among the others
new_first : (name : ℕ) (names : List ℕ) (k : ℕ) → are_distinct (name ∷ names) ≡ true → k < length names → slice_index names k ≡ name → ⊥
new_first name names k passed within same =
    let found = list_any (λ other. other == name) names in
    both_ways found (not-true found (and_parts (not found) (are_distinct names) passed).0) (found_contained names name (k, within, get_or_default names k name 0 within ∙ same))

-- names that pass the test are distinct
pub distinct_from_test : (names : List ℕ) → are_distinct names ≡ true → AreDistinct names
distinct_from_test [] passed i j i_within j_within same = absurd (omega arith)
distinct_from_test (name ∷ names) passed zero zero i_within j_within same = refl
distinct_from_test (name ∷ names) passed zero (suc j) i_within j_within same = absurd (new_first name names j passed (omega arith) (sym same))
distinct_from_test (name ∷ names) passed (suc i) zero i_within j_within same = absurd (new_first name names i passed (omega arith) same)
distinct_from_test (name ∷ names) passed (suc i) (suc j) i_within j_within same =
    let rest = (and_parts (not (list_any (λ other. other == name) names)) (are_distinct names) passed).1 in
    ap suc (distinct_from_test names rest i j (omega arith) (omega arith) same)

-- distinct names pass the test
pub test_from_distinct : (names : List ℕ) → AreDistinct names → are_distinct names ≡ true
test_from_distinct [] distinct = refl
test_from_distinct (name ∷ names) distinct =
    let found = list_any (λ other. other == name) names in
    let new : found ≡ false =
    false_from_ne_true found (λ there.
    let again = contains_found names name there in
    let same : suc again.0 ≡ zero = distinct (suc again.0) zero (omega (arith, again.1)) (omega arith) (get_or_default names again.0 0 name again.1 ∙ again.2) in
    absurd (omega arith)) in
    let rest : AreDistinct names = λ i j i_within j_within same.
    let equal : suc i ≡ suc j = distinct (suc i) (suc j) (omega arith) (omega arith) same in
    omega arith in
    rw (new, test_from_distinct names rest) refl
