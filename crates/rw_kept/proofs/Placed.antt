-- Where a tuple stands among ascending ones.
use Rattle.std.proofs.Common.{◌≡◌, ℕ, ◌<◌, ◌≤◌, List, [], ◌∷◌, Contains, Result, Ok, Err, MatchOption, length, get_or, refl, sym, ap, ◌∙◌, subst, arith, inl, inr, Ordering, Less, Equal, Greater}
use Rattle.std.specs.Cmp.Lexicographic.{slice_cmp}
use Rattle.std.specs.Result.{result_ok}
use Rattle.std.specs.List.Sorted.{IsBinarySearchResult, IsNonDecreasingBy, IsStrictlySortedBy}
use Rattle.std.specs.Ordering.{nat_cmp, ordering_index, ordering_then}
use Rattle.std.proofs.lemmas.Bool.{cases_eq, cases_lt}
use Rattle.std.proofs.lemmas.List.{get_or_past}
use Rattle.std.proofs.lemmas.Cmp.{nat_list_cmp_total, ranked, tied_itself}
use Rattle.std.proofs.lemmas.Map.Keys.{Less-from_sorted}
use Rattle.rw_kept.specs.inner.Groups.{tuple_at}

-- where two are tied, so are their first parts and what follows
tied_first : (o p : Ordering) → ordering_then o p ≡ Equal → (o ≡ Equal) × (p ≡ Equal)
tied_first Less p same = absurd (cc)
tied_first Equal p same = (refl, same)
tied_first Greater p same = absurd (cc)

-- tuples that are tied are one
pub same_names : (x y : List ℕ) → slice_cmp nat_cmp x y ≡ Equal → x ≡ y
same_names [] [] same = refl
same_names [] (y ∷ ys) same = absurd (cc)
same_names (x ∷ xs) [] same = absurd (cc)
same_names (x ∷ xs) (y ∷ ys) same =
    let parts = tied_first (nat_cmp x y) (slice_cmp nat_cmp xs ys) same in
    ap (λ (n : ℕ). n ∷ xs) (ranked x y Equal (sym parts.0)) ∙ ap (λ (ns : List ℕ). y ∷ ns) (same_names xs ys parts.1)

-- no answer comes after the greatest
index_most : (o : Ordering) → ordering_index o ≤ ordering_index Greater
index_most Less = omega arith
index_most Equal = omega arith
index_most Greater = omega arith

-- an answer that comes first is no later than any
index_least : (o p : Ordering) → o ≡ Less → ordering_index o ≤ ordering_index p
index_least Less p is = omega arith
index_least Equal p is = absurd (cc)
index_least Greater p is = absurd (cc)

module _ (xs : List (List ℕ)) (up : IsStrictlySortedBy (slice_cmp nat_cmp) xs) (x : List ℕ) where
  -- a tuple before one is compared with x no later than that one
  rises_apart : (i j : ℕ) (d : List ℕ) → slice_cmp nat_cmp (get_or xs i d) (get_or xs j d) ≡ Less → (o : Ordering) → slice_cmp nat_cmp (get_or xs j d) x ≡ o
      → ordering_index (slice_cmp nat_cmp (get_or xs i d) x) ≤ ordering_index o
  rises_apart i j d less Less is =
      index_least (slice_cmp nat_cmp (get_or xs i d) x) Less (nat_list_cmp_total.trans (get_or xs i d) (get_or xs j d) x less is)
  rises_apart i j d less Equal is =
      index_least (slice_cmp nat_cmp (get_or xs i d) x) Equal
      (subst (λ (y : List ℕ). slice_cmp nat_cmp (get_or xs i d) y ≡ Less) (same_names (get_or xs j d) x is) less)
  rises_apart i j d less Greater is = index_most (slice_cmp nat_cmp (get_or xs i d) x)

  -- the comparisons with x rise
  rises : IsNonDecreasingBy (λ y. ordering_index (slice_cmp nat_cmp y x)) xs
  rises i j d le within =
      elim (cases_eq i j) [
        | inl same ↦ rw same (omega arith)
        | inr other ↦
            rises_apart i j d (Less-from_sorted (slice_cmp nat_cmp) xs i j d up (omega arith) within) (slice_cmp nat_cmp (get_or xs j d) x) refl
      ]

  -- a search ends at the tuple, or nowhere
  pub placed : (r : Result ℕ ℕ) → IsBinarySearchResult (λ y. slice_cmp nat_cmp y x) xs r
      → MatchOption (result_ok r) (Contains xs x → ⊥) (λ place. (place < length xs) × (tuple_at xs place ≡ x))
  placed (Ok at) equal = (
    elim (cases_lt at (length xs)) [
      | inl below ↦ below
      | inr past ↦
          let longer : get_or xs at (0 ∷ x) ≡ x = same_names (get_or xs at (0 ∷ x)) x (equal (0 ∷ x)) in
          let long : length (0 ∷ x) ≡ length x = ap length (sym (get_or_past xs at (0 ∷ x) past) ∙ longer) in
          absurd (omega (arith, long))
    ],
    same_names (get_or xs at []) x (equal []),
  )
  placed (Err at) parted = λ there. absent there.0 there.1 there.2
    where
      absent : (k : ℕ) → k < length xs → get_or xs k x ≡ x → ⊥
      absent k within there =
          let tied : slice_cmp nat_cmp (get_or xs k x) x ≡ Equal =
          subst (λ (y : List ℕ). slice_cmp nat_cmp y x ≡ Equal) (sym there) (tied_itself nat_list_cmp_total x) in
          elim (cases_lt k at) [
            | inl below ↦ let less = (parted rises).0 k x (omega arith) below in cc
            | inr above ↦ let more = (parted rises).1 k x above within in cc
          ]
