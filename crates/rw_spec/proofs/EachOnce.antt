-- Lists in which each item stands once, item by item.
use Rattle.std.proofs.Common.{◌≡◌, ℕ, zero, suc, ◌<◌, inl, inr, Bool, true, false, cond, List, [], ◌∷◌, ◌++◌, Contains, filter, map, length, get_or, refl, sym, ap, ◌∙◌, subst, arith}
use Rattle.std.proofs.lemmas.List.{get_or_default}
use Rattle.std.proofs.lemmas.List.Elements.{Contains-get_or, Contains-append_cases}
use Rattle.rw_spec.specs.Distinct.{AreDistinct}
use Rattle.rw_spec.proofs.Sequences.{contains_here, contains_later, contained_in_filter, contained_in_map}

-- no item stands among those after it
abbrev pub EachOnce : {X : Type 0} → List X → Type 0
EachOnce [] = Unit {0}
EachOnce (x ∷ xs) = (Contains xs x → ⊥) × EachOnce xs

-- items at different places differ
pub once_apart : {X : Type 0} (xs : List X) (i j : ℕ) (d : X) → EachOnce xs → i < length xs → j < length xs → get_or xs i d ≡ get_or xs j d → i ≡ j
once_apart [] i j d once i_within j_within same = absurd (omega arith)
once_apart (x ∷ xs) zero zero d once i_within j_within same = refl
once_apart (x ∷ xs) zero (suc j) d once i_within j_within same =
    absurd (once.0 (subst (Contains xs) (sym same) (Contains-get_or xs j d (omega arith))))
once_apart (x ∷ xs) (suc i) zero d once i_within j_within same =
    absurd (once.0 (subst (Contains xs) same (Contains-get_or xs i d (omega arith))))
once_apart (x ∷ xs) (suc i) (suc j) d once i_within j_within same =
    ap suc (once_apart xs i j d once.1 (omega arith) (omega arith) same)

-- distinct names stand each once
pub once_from_distinct : (names : List ℕ) → AreDistinct names → EachOnce names
once_from_distinct [] distinct = tt
once_from_distinct (name ∷ names) distinct = (
  λ again.
      let same : suc again.0 ≡ zero = distinct (suc again.0) zero (omega (arith, again.1)) (omega arith) (get_or_default names again.0 0 name again.1 ∙ again.2) in
      omega arith,
  once_from_distinct names (λ i j i_within j_within same.
      let equal : suc i ≡ suc j = distinct (suc i) (suc j) (omega arith) (omega arith) same in
      omega arith),
)

-- two lists with no item in common, one behind the other
pub once_append : {X : Type 0} (xs ys : List X) → EachOnce xs → EachOnce ys → ((x : X) → Contains xs x → Contains ys x → ⊥) → EachOnce (xs ++ ys)
once_append [] ys first second apart = second
once_append (x ∷ xs) ys first second apart = (
  λ again. elim (Contains-append_cases xs ys x again) [
    | inl left ↦ first.0 left
    | inr right ↦ apart x (contains_here x xs) right
  ],
  once_append xs ys first.1 second (λ y left right. apart y (contains_later x xs y left) right),
)

-- a filter keeps items apart
pub once_filter : {X : Type 0} (p : X → Bool) (xs : List X) → EachOnce xs → EachOnce (filter p xs)
once_filter p [] once = tt
once_filter p (x ∷ xs) once =
    elim (p x) as (λ passed. EachOnce (cond passed (x ∷ filter p xs) (filter p xs))) [
      | true ↦ (λ again. once.0 (contained_in_filter p xs x again).0, once_filter p xs once.1)
      | false ↦ once_filter p xs once.1
    ]

-- a map that takes different items to different ones keeps them apart
pub once_map : {X Y : Type 0} (f : X → Y) (xs : List X) → ((x y : X) → f x ≡ f y → x ≡ y) → EachOnce xs → EachOnce (map f xs)
once_map f [] injective once = tt
once_map {X} {Y} f (x ∷ xs) injective once = (
  λ again.
      let from : (y : X) × Contains xs y × (f y ≡ f x) = contained_in_map f xs (f x) again in
      once.0 (subst (Contains xs) (injective from.0 x from.2) from.1),
  once_map f xs injective once.1,
)
