-- What is made of the pairs of each object is the pullback's.
use Rattle.std.proofs.Common.{◌≡◌, ◌∙◌, ℕ, zero, suc, ◌+◌, ◌<◌, Some, List, [], ◌∷◌, map, length, get_or, slice_get, refl, sym, ap, add-zero, zero-add, arith}
use Rattle.std.specs.List.{range_with_len}
use Rattle.std.proofs.lemmas.List.{length-map, get_or-map}
use Rattle.std.proofs.lemmas.List.FromFn.{length-map-range_with_len, get_or-map-range_with_len}
use Rattle.rw_schema.specs.declared.signature.ArrowEnds.{ArrowEnds}
use Rattle.rw_schema.specs.declared.signature.AttrEnds.{AttrEnds}
use Rattle.rw_schema.specs.First.{map_in}
use Rattle.rw_schema.specs.RowLists.{list_at}
use Rattle.rw_schema.specs.Signature.{Signature, IsCategory}
use Rattle.rw_spec.specs.Pullback.{Cospan}
use Rattle.rw_limits.specs.inner.PairLists.{row_of_pairs, cells_of_pairs, lists_of_pairs}
use Rattle.rw_limits.specs.Pairs.{pairs_at}
use Rattle.rw_limits.specs.Pullbacks.{pair_value, pair_cell, pullback_lists}

-- one map after another
pub map_map : {X Y Z : Type 0} (g : Y → Z) (h : X → Y) (xs : List X) → map g (map h xs) ≡ map (λ x. g (h x)) xs
map_map g h [] = refl
map_map g h (x ∷ xs) = ap (λ rest. g (h x) ∷ rest) (map_map g h xs)

module _ {V : Type 0} (items : V → List (ℕ × ℕ)) (h : ℕ → List (ℕ × ℕ)) (n : ℕ) (vs : List V) (are : map items vs ≡ map h (range_with_len 0 n)) where
  -- there is one list of pairs for each object
  pub count_given : length vs ≡ n
  count_given = sym (length-map vs items) ∙ ap length are ∙ length-map-range_with_len h 0 n

  -- the list at the place of an object has its pairs
  pub pairs_given : (k : ℕ) (d : V) → k < length vs → items (get_or vs k d) ≡ h k
  pairs_given k d within =
      let below : k < n = omega (arith, count_given) in
      sym (get_or-map items vs k d [] within) ∙ ap (λ (lists : List (List (ℕ × ℕ))). get_or lists k []) are ∙ get_or-map-range_with_len h 0 n k k [] below (zero-add k)

  -- what is made of each list is made of the pairs of each object
  pub each_given : {A : Type 0} (G : List (ℕ × ℕ) → A) → map (λ v. G (items v)) vs ≡ map (λ object. G (h object)) (range_with_len 0 n)
  each_given G = sym (map_map G items vs) ∙ ap (map G) are ∙ map_map G h (range_with_len 0 n)

-- maps with places that agree at each item
map_in_agree : {X A : Type 0} (p q : ℕ → X → A) (i : ℕ) (xs : List X) → ((k : ℕ) (x : X) → slice_get xs k ≡ Some x → p (i + k) x ≡ q (i + k) x) → map_in p i xs ≡ map_in q i xs
map_in_agree p q i [] agree = refl
map_in_agree p q i (x ∷ xs) agree =
    let here : p i x ≡ q i x = rw add-zero at (agree zero x refl) in
    let later : map_in p (i + 1) xs ≡ map_in q (i + 1) xs =
    map_in_agree p q (i + 1) xs (λ k y there.
    let same : (i + 1) + k ≡ i + suc k = omega arith in
    rw same (agree (suc k) y there)) in
    rw (here, later) refl

module _ (C : Signature) (S : Cospan) (pairs : List (List (ℕ × ℕ))) (category : IsCategory C) (are : pairs ≡ map (pairs_at S) (range_with_len 0 C.objects)) where
  -- the pairs of an object
  pairs_there : (object : ℕ) → object < C.objects → list_at pairs object ≡ pairs_at S object
  pairs_there object known =
      ap (λ (lists : List (List (ℕ × ℕ))). list_at lists object) are ∙ get_or-map-range_with_len (pairs_at S) 0 C.objects object object [] known (zero-add object)

  -- the rows that are made of the pairs
  rows_given : map_in (row_of_pairs S.left S.right pairs) 0 C.arrows ≡ (pullback_lists C S).arrows
  rows_given =
      map_in_agree (row_of_pairs S.left S.right pairs) (λ a (ends : ArrowEnds). map (pair_value S a ends) (pairs_at S ends.source.0)) 0 C.arrows
      (λ k ends there. rw (pairs_there ends.target.0 (category.targets k ends there), pairs_there ends.source.0 (category.sources k ends there)) refl)

  -- the cells that are made of the pairs
  cells_given : map_in (cells_of_pairs S.left S.right pairs) 0 C.attributes ≡ (pullback_lists C S).cells
  cells_given =
      map_in_agree (cells_of_pairs S.left S.right pairs) (λ c (ends : AttrEnds). map (pair_cell S c) (pairs_at S ends.object.0)) 0 C.attributes
      (λ k ends there. rw (pairs_there ends.object.0 (category.holders k ends there)) refl)

  -- the lists that are made of the pairs
  pub lists_given : lists_of_pairs C S.left S.right pairs ≡ pullback_lists C S
  lists_given =
      let names_given : map (λ (list : List (ℕ × ℕ)). range_with_len 0 (length list)) pairs ≡ (pullback_lists C S).names =
      ap (map (λ list. range_with_len 0 (length list))) are ∙ map_map (λ (list : List (ℕ × ℕ)). range_with_len 0 (length list)) (pairs_at S) (range_with_len 0 C.objects) in
      let next_given : map length pairs ≡ (pullback_lists C S).next =
      ap (map length) are ∙ map_map (λ (list : List (ℕ × ℕ)). length list) (pairs_at S) (range_with_len 0 C.objects) in
      λ i. record { names = names_given i; arrows = rows_given i; cells = cells_given i; next = next_given i }
