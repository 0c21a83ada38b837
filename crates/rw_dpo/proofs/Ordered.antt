-- Names that were gathered and put in order.
use Rattle.std.proofs.Common.{◌≡◌, ◌∙◌, ◌+◌, ◌<◌, ◌≤◌, ◌++◌, ℕ, Bool, true, false, cond, Contains, List, [], ◌∷◌, filter, length, map, take, refl, sym, ap, subst, inl, inr, arith}
use Rattle.std.specs.List.{list_all, range_with_len}
use Rattle.std.proofs.lemmas.Bool.{cases_order}
use Rattle.std.proofs.lemmas.List.{map-append, take_all}
use Rattle.std.specs.Ordering.{nat_cmp}
use Rattle.std.proofs.lemmas.Cmp.{nat_cmp_total}
use Rattle.rw_spec.specs.Ascending.{ascends}
use Rattle.rw_spec.proofs.Ascending.{ascends_filter}
use Rattle.rw_spec.proofs.OneOrder.{one_order}
use Rattle.rw_spec.proofs.Ranges.{range_below, range_has}
use Rattle.rw_spec.proofs.Sequences.{contains_filter, contained_in_filter, list_all_contained, list_all_from_contained}
use Rattle.rw_spec.proofs.TuplesAscend.{sorted_from_ascends}
use Rattle.rw_delta.specs.Deltas.{IsListOf}
use Rattle.rw_redex.proofs.Ranges.{filter_more}

-- in order they are those of an ascending list that pass a test, where both have the same members
pub ordered_are : (gathered names xs : List ℕ) (test : ℕ → Bool) → ascends xs ≡ true → IsListOf (Contains gathered) names
    → ((x : ℕ) → Contains gathered x → Contains xs x × (test x ≡ true)) → ((x : ℕ) → Contains xs x → test x ≡ true → Contains gathered x) → names ≡ filter test xs
ordered_are gathered names xs test up listed within complete =
    one_order nat_cmp nat_cmp_total names (filter test xs) (sorted_from_ascends names listed.ascend) (sorted_from_ascends (filter test xs) (ascends_filter test xs up))
    (λ x there. let parts = within x ((listed.members x).0 there) in contains_filter test xs x parts.0 parts.1)
    (λ x there. let parts = contained_in_filter test xs x there in (listed.members x).1 (complete x parts.0 parts.1))

-- what f gives of the numbers that pass a test, with one number more
pub gathered_more : (f : ℕ → ℕ) (test : ℕ → Bool) (n : ℕ) (passes : Bool) → test n ≡ passes
    → map f (filter test (range_with_len 0 (n + 1))) ≡ map f (filter test (range_with_len 0 n)) ++ cond passes (f n ∷ []) []
gathered_more f test n passes here =
    ap (map f) (filter_more test n passes here) ∙ map-append f (filter test (range_with_len 0 n)) (cond passes (n ∷ []) [])
    ∙ ap (λ more. map f (filter test (range_with_len 0 n)) ++ more) (one passes)
  where
    one : (passes : Bool) → map f (cond passes (n ∷ []) []) ≡ cond passes (f n ∷ []) []
    one true = refl
    one false = refl

-- a test that passes at the numbers below n and at n passes at the numbers up to n
pub all_more : (test : ℕ → Bool) (n : ℕ) → list_all test (range_with_len 0 n) ≡ true → test n ≡ true → list_all test (range_with_len 0 (n + 1)) ≡ true
all_more test n before here =
    list_all_from_contained test (range_with_len 0 (n + 1)) (λ x there.
    let below : x < n + 1 = range_below (n + 1) x there in
    elim (cases_order x n) [
      | inl same ↦ subst (λ (x : ℕ). test x ≡ true) (sym same) here
      | inr other ↦ elim other [
        | inl less ↦ list_all_contained test (range_with_len 0 n) x before (range_has n x less)
        | inr more ↦ absurd (omega arith)
      ]
    ])

-- a map behind a map is one
map_twice : {X Y Z : Type 0} (f : Y → Z) (h : X → Y) (xs : List X) → map (λ x. f (h x)) xs ≡ map f (map h xs)
map_twice f h [] = refl
map_twice f h (x ∷ xs) = ap (λ zs. f (h x) ∷ zs) (map_twice f h xs)

-- where all items are gone through, all are there
pub mapped_whole : {X Y Z : Type 0} (f : Y → Z) (h : X → Y) (xs : List X) (n : ℕ) → length xs ≤ n → map (λ x. f (h x)) (take n xs) ≡ map f (map h xs)
mapped_whole f h xs n past = ap (map (λ x. f (h x))) (take_all n xs past) ∙ map_twice f h xs
