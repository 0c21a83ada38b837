-- Ascending numbers.
use Rattle.std.proofs.Common.{◌≡◌, ◌∙◌, ℕ, zero, suc, ◌+◌, ◌<◌, ◌≤◌, Bool, true, false, nat_lt, List, [], ◌∷◌, ◌++◌, filter, length, get_or, add-one, refl, sym, inl, inr, MatchBool, arith}
use Rattle.std.specs.List.{AllAdjacentBelow, Contains}
use Rattle.std.proofs.lemmas.Bool.{and_parts, and_from, and_left, and_right, ltb-true, lt-ltb, cases_Bool, cases_order}
use Rattle.std.proofs.lemmas.List.{get_or_default}
use Rattle.std.proofs.lemmas.List.Elements.{Contains-append_cases}
use Rattle.rw_spec.specs.Distinct.{AreDistinct}
use Rattle.rw_spec.specs.Ascending.{ascends}
use Rattle.rw_spec.proofs.Sequences.{contains_here, contains_later, contained_in_filter}

-- the numbers after the first ascend
pub ascends_rest : (x : ℕ) (xs : List ℕ) → ascends (x ∷ xs) ≡ true → ascends xs ≡ true
ascends_rest x [] up = refl
ascends_rest x (y ∷ xs) up = (and_parts (nat_lt x y) (ascends (y ∷ xs)) up).1

-- the first number is less than each later one
first_least : (x : ℕ) (xs : List ℕ) (k : ℕ) → ascends (x ∷ xs) ≡ true → k < length xs → x < get_or xs k 0
first_least x [] k up within = absurd (omega arith)
first_least x (y ∷ xs) zero up within = ltb-true x y (and_parts (nat_lt x y) (ascends (y ∷ xs)) up).0
first_least x (y ∷ xs) (suc k) up within =
    let parts = and_parts (nat_lt x y) (ascends (y ∷ xs)) up in
    let next : x < y = ltb-true x y parts.0 in
    let later : y < get_or xs k 0 = first_least y xs k parts.1 (omega arith) in
    omega arith

-- an earlier number is less than a later one
pub ascends_apart : (xs : List ℕ) (i j : ℕ) → ascends xs ≡ true → i < j → j < length xs → get_or xs i 0 < get_or xs j 0
ascends_apart [] i j up before within = absurd (omega arith)
ascends_apart (x ∷ xs) i zero up before within = absurd (omega arith)
ascends_apart (x ∷ xs) zero (suc j) up before within = first_least x xs j up (omega arith)
ascends_apart (x ∷ xs) (suc i) (suc j) up before within = ascends_apart xs i j (ascends_rest x xs up) (omega arith) (omega arith)

-- an earlier number is at most a later one
pub ascends_far : (xs : List ℕ) → ascends xs ≡ true → (i j : ℕ) → i ≤ j → j < length xs → get_or xs i 0 ≤ get_or xs j 0
ascends_far xs up i j before within =
    elim (cases_order i j) [
      | inl same ↦ rw same (omega arith)
      | inr other ↦ elim other [
        | inl below ↦ let less = ascends_apart xs i j up below within in omega arith
        | inr above ↦ absurd (omega arith)
      ]
    ]

-- ascending numbers are distinct
pub ascends_distinct : (xs : List ℕ) → ascends xs ≡ true → AreDistinct xs
ascends_distinct xs up i j within_i within_j same =
    elim (cases_order i j) [
      | inl equal ↦ equal
      | inr other ↦ elim other [
        | inl below ↦ let less = ascends_apart xs i j up below within_j in absurd (omega arith)
        | inr above ↦ let less = ascends_apart xs j i up above within_i in absurd (omega arith)
      ]
    ]

-- a number is at least its place
place_least : (xs : List ℕ) (k : ℕ) → ascends xs ≡ true → k < length xs → k ≤ get_or xs k 0
place_least xs zero up within = omega arith
place_least xs (suc k) up within =
    let before = place_least xs k up (omega arith) in
    let less = ascends_apart xs k (suc k) up (omega arith) within in
    omega arith

-- there are at most as many ascending numbers as there are numbers below their bound
pub ascends_few : (xs : List ℕ) (bound : ℕ) → ascends xs ≡ true → ((k : ℕ) → k < length xs → get_or xs k 0 < bound) → length xs ≤ bound
ascends_few [] bound up below = omega arith
ascends_few (x ∷ xs) bound up below =
    let least = place_least (x ∷ xs) (length xs) up (omega arith) in
    let less = below (length xs) (omega arith) in
    omega arith

-- numbers of which each is less than the next one ascend
pub ascends_all : (xs : List ℕ) → ((k : ℕ) → suc k < length xs → nat_lt (get_or xs k 0) (get_or xs (suc k) 0) ≡ true) → ascends xs ≡ true
ascends_all [] each = refl
ascends_all (x ∷ []) each = refl
ascends_all (x ∷ y ∷ xs) each =
    and_from (nat_lt x y) (ascends (y ∷ xs)) (each 0 (omega arith))
    (ascends_all (y ∷ xs) (λ k within. each (suc k) (omega arith)))

-- where a number is not less than the next one, the numbers do not ascend
ascends_none : (xs : List ℕ) (k : ℕ) → suc k < length xs → nat_lt (get_or xs k 0) (get_or xs (suc k) 0) ≡ false → ascends xs ≡ false
ascends_none [] k within fails = absurd (omega arith)
ascends_none (x ∷ []) k within fails = absurd (omega arith)
ascends_none (x ∷ y ∷ xs) zero within fails = and_left (nat_lt x y) (ascends (y ∷ xs)) fails
ascends_none (x ∷ y ∷ xs) (suc k) within fails =
    and_right (nat_lt x y) (ascends (y ∷ xs)) (ascends_none (y ∷ xs) k (omega arith) fails)

-- the answer of a test of each number against the next one
pub ascends_answer : (xs : List ℕ) (answer : Bool)
    → MatchBool answer (AllAdjacentBelow (λ x y. true ≡ nat_lt x y) xs (length xs)) ((k : ℕ) × (k + 1 < length xs) × ((d : ℕ) → false ≡ nat_lt (get_or xs k d) (get_or xs (k + 1) d)))
    → answer ≡ ascends xs
ascends_answer xs true each = sym (ascends_all xs (λ k within. sym (rw add-one at (each k 0 (omega arith)))))
ascends_answer xs false (k, within, fails) = sym (ascends_none xs k (omega arith) (sym (rw add-one at (fails 0))))

-- numbers ascend behind one that is below each of them
pub ascends_behind : (x : ℕ) (xs : List ℕ) → ((y : ℕ) → Contains xs y → x < y) → ascends xs ≡ true → ascends (x ∷ xs) ≡ true
ascends_behind x [] below up = refl
ascends_behind x (y ∷ xs) below up = and_from (nat_lt x y) (ascends (y ∷ xs)) (lt-ltb x y (below y (contains_here y xs))) up

-- the first of ascending numbers is below each later one
pub first_below : (x : ℕ) (xs : List ℕ) (y : ℕ) → ascends (x ∷ xs) ≡ true → Contains xs y → x < y
first_below x xs y up (k, within, there) =
    let less : x < get_or xs k 0 = ascends_apart (x ∷ xs) zero (suc k) up (omega arith) (omega arith) in
    let is : get_or xs k 0 ≡ y = get_or_default xs k 0 y within ∙ there in
    omega arith

-- the ascending numbers that pass a test ascend
pub ascends_filter : (test : ℕ → Bool) (xs : List ℕ) → ascends xs ≡ true → ascends (filter test xs) ≡ true
ascends_filter test [] up = refl
ascends_filter test (x ∷ xs) up =
    let rest : ascends (filter test xs) ≡ true = ascends_filter test xs (ascends_rest x xs up) in
    elim (cases_Bool (test x)) [
      | inl kept ↦ rw kept (ascends_behind x (filter test xs) (λ y there. first_below x xs y up (contained_in_filter test xs y there).0) rest)
      | inr left ↦ rw left rest
    ]

-- ascending numbers ascend behind others that are below them
pub ascends_append : (xs ys : List ℕ) → ascends xs ≡ true → ascends ys ≡ true
    → ((x y : ℕ) → Contains xs x → Contains ys y → x < y) → ascends (xs ++ ys) ≡ true
ascends_append [] ys up up_later apart = up_later
ascends_append (x ∷ xs) ys up up_later apart =
    ascends_behind x (xs ++ ys)
    (λ y there. elim (Contains-append_cases xs ys y there) [
      | inl here ↦ first_below x xs y up here
      | inr later ↦ apart x y (contains_here x xs) later
    ])
    (ascends_append xs ys (ascends_rest x xs up) up_later (λ a b there later. apart a b (contains_later x xs a there) later))
