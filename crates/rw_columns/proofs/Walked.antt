-- Walks that pass over names, and walks in one order.
use Rattle.std.proofs.Common.{◌≡◌, ◌∙◌, ℕ, ◌<◌, Bool, true, false, not, ◌&&◌, List, [], ◌∷◌, filter, refl, ap, inl, inr, arith}
use Rattle.std.specs.Prelude.{Contains}
use Rattle.std.specs.Ordering.{nat_cmp}
use Rattle.std.proofs.lemmas.Bool.{cases_Bool, lt-ltb, le-ltb}
use Rattle.std.proofs.lemmas.Cmp.{nat_cmp_total}
use Rattle.rw_spec.specs.Ascending.{ascends}
use Rattle.rw_spec.proofs.Ascending.{ascends_rest, first_below}
use Rattle.rw_spec.proofs.OneOrder.{one_order}
use Rattle.rw_spec.proofs.Sequences.{contains_here, contains_later, contained_in_filter}
use Rattle.rw_spec.proofs.TuplesAscend.{sorted_from_ascends}
use Rattle.rw_columns.specs.inner.Walks.{merge}

-- two ascending lists with the same numbers are one
pub same_order : (xs ys : List ℕ) → ascends xs ≡ true → ascends ys ≡ true → ((x : ℕ) → Contains xs x → Contains ys x)
    → ((x : ℕ) → Contains ys x → Contains xs x) → xs ≡ ys
same_order xs ys up up' there back = one_order nat_cmp nat_cmp_total xs ys (sorted_from_ascends xs up) (sorted_from_ascends ys up') there back

-- a test that all items pass leaves them all
pub filter_all : (test : ℕ → Bool) (xs : List ℕ) → ((x : ℕ) → Contains xs x → test x ≡ true) → filter test xs ≡ xs
filter_all test [] all = refl
filter_all test (x ∷ xs) all = rw (all x (contains_here x xs), filter_all test xs (λ y there. all y (contains_later x xs y there))) refl

-- a test that no item passes leaves none
pub filter_none : (test : ℕ → Bool) (xs : List ℕ) → ((x : ℕ) → Contains xs x → test x ≡ false) → filter test xs ≡ []
filter_none test [] fails = refl
filter_none test (x ∷ xs) fails = rw (fails x (contains_here x xs)) (filter_none test xs (λ y there. fails y (contains_later x xs y there)))

-- two filters, one after the other
pub filter_twice : (first second : ℕ → Bool) (xs : List ℕ) → filter second (filter first xs) ≡ filter (λ x. first x && second x) xs
filter_twice first second [] = refl
filter_twice first second (x ∷ xs) =
    elim (cases_Bool (first x)) [
      | inr fails ↦ rw fails (filter_twice first second xs)
      | inl passes ↦ elim (cases_Bool (second x)) [
        | inl kept ↦ rw (passes, kept) (ap (λ (rest : List ℕ). x ∷ rest) (filter_twice first second xs))
        | inr left ↦ rw (passes, left) (filter_twice first second xs)
      ]
    ]

-- a list merged with none
pub merge_alone : (xs : List ℕ) → merge xs [] ≡ xs
merge_alone [] = refl
merge_alone (x ∷ xs) = ap (λ (rest : List ℕ). x ∷ rest) (merge_alone xs)

-- a number below the second list stands first
merge_left : (x : ℕ) (xs ys : List ℕ) → ((y : ℕ) → Contains ys y → x < y) → merge (x ∷ xs) ys ≡ x ∷ merge xs ys
merge_left x xs [] below = refl
merge_left x xs (y ∷ ys) below = rw (lt-ltb x y (below y (contains_here y ys))) refl

-- and so does one below the first list
merge_right : (x : ℕ) (xs ys : List ℕ) → ((y : ℕ) → Contains xs y → x < y) → merge xs (x ∷ ys) ≡ x ∷ merge xs ys
merge_right x [] ys below = refl
merge_right x (y ∷ xs) ys below = rw (le-ltb y x (let less = below y (contains_here y xs) in omega (arith, less))) refl

-- what passes a test and what does not, merged, is the ascending list
pub merge_parts : (test : ℕ → Bool) (xs : List ℕ) → ascends xs ≡ true → merge (filter (λ x. not (test x)) xs) (filter test xs) ≡ xs
merge_parts test [] up = refl
merge_parts test (x ∷ xs) up =
    let rest = merge_parts test xs (ascends_rest x xs up) in
    let fails = λ (y : ℕ). not (test y) in
    let others : (other : ℕ → Bool) (y : ℕ) → Contains (filter other xs) y → x < y = λ other y there. first_below x xs y up (contained_in_filter other xs y there).0 in
    elim (cases_Bool (test x)) [
      | inl passes ↦ rw passes (merge_right x (filter fails xs) (filter test xs) (others fails) ∙ ap (λ (ys : List ℕ). x ∷ ys) rest)
      | inr not_passes ↦ rw not_passes (merge_left x (filter fails xs) (filter test xs) (others test) ∙ ap (λ (ys : List ℕ). x ∷ ys) rest)
    ]
