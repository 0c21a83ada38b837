-- Only one strictly ascending list has given items.
use Rattle.std.proofs.Common.{◌≡◌, List, [], ◌∷◌, refl, sym, ap, ◌∙◌, subst, inl, inr, Less, Ordering}
use Rattle.std.specs.Prelude.{Contains}
use Rattle.std.specs.Cmp.{IsTotalOrder}
use Rattle.std.specs.List.Sorted.{IsStrictlySortedBy}
use Rattle.std.proofs.lemmas.Cmp.{tied_itself}
use Rattle.std.proofs.lemmas.List.Elements.{All-contains, All-from_recursion}
use Rattle.std.proofs.lemmas.Map.Keys.{sorted_head}
use Rattle.rw_spec.proofs.Look.{contains_cases}
use Rattle.rw_spec.proofs.Sequences.{contains_here, contains_later, contains_none}

module _ {K : Type 0} (R : K → K → Ordering) (order : IsTotalOrder R) where
  -- nothing comes before itself
  not_before_itself : (x : K) → R x x ≡ Less → ⊥
  not_before_itself x less = cc (tied_itself order x)

  -- the first item comes before the others
  first_before : (x : K) (xs : List K) (y : K) → IsStrictlySortedBy R (x ∷ xs) → Contains xs y → R x y ≡ Less
  first_before x xs y up there = All-contains (λ z. R x z ≡ Less) xs y (All-from_recursion (λ z. R x z ≡ Less) xs (sorted_head R x xs up)) there

  -- the others ascend
  rest_ascends : (x : K) (xs : List K) → IsStrictlySortedBy R (x ∷ xs) → IsStrictlySortedBy R xs
  unfolding IsStrictlySortedBy
  rest_ascends x xs up = up.1

  -- two strictly ascending lists with the same items are one
  pub one_order : (xs ys : List K) → IsStrictlySortedBy R xs → IsStrictlySortedBy R ys → ((x : K) → Contains xs x → Contains ys x)
      → ((x : K) → Contains ys x → Contains xs x) → xs ≡ ys
  one_order [] [] up up' there back = refl
  one_order [] (y ∷ ys) up up' there back = absurd (contains_none y (back y (contains_here y ys)))
  one_order (x ∷ xs) [] up up' there back = absurd (contains_none x (there x (contains_here x xs)))
  one_order (x ∷ xs) (y ∷ ys) up up' there back =
      let first : x ≡ y =
      elim (contains_cases y ys x (there x (contains_here x xs))) [
        | inl same ↦ sym same
        | inr below ↦ elim (contains_cases x xs y (back y (contains_here y ys))) [
          | inl same ↦ same
          | inr under ↦ absurd (not_before_itself x (order.trans x y x (first_before x xs y up under) (first_before y ys x up' below)))
        ]
      ] in
      ap (λ (z : K). z ∷ xs) first
      ∙ ap (λ (zs : List K). y ∷ zs) (one_order xs ys (rest_ascends x xs up) (rest_ascends y ys up')
      (λ z in_xs. elim (contains_cases y ys z (there z (contains_later x xs z in_xs))) [
        | inl same ↦ absurd (not_before_itself x (subst (λ (w : K). R x w ≡ Less) (sym same ∙ sym first) (first_before x xs z up in_xs)))
        | inr tail ↦ tail
      ])
      (λ z in_ys. elim (contains_cases x xs z (back z (contains_later y ys z in_ys))) [
        | inl same ↦ absurd (not_before_itself y (subst (λ (w : K). R y w ≡ Less) (sym same ∙ first) (first_before y ys z up' in_ys)))
        | inr tail ↦ tail
      ]))
