-- Pairs in lexicographic order, and the place of a pair that a binary search finds.
use Rattle.std.proofs.Common.{◌≡◌, ◌==◌, ◌∙◌, ℕ, suc, ◌-◌, ◌<◌, ◌≤◌, true, false, List, [], ◌∷◌, ◌++◌, length, get_or, refl, sym, ap, subst, inl, inr, Ordering, Less, Equal, Greater, arith}
use Rattle.std.specs.List.{Contains, HoldsAt}
use Rattle.std.specs.List.Sorted.{IsNonDecreasingBy, IsPartitionPoint}
use Rattle.std.specs.Ordering.{MatchOrdering, nat_cmp, ordering_index, ordering_then}
use Rattle.std.proofs.lemmas.Bool.{and_from, and_parts, cases_lt, cases_order, eq-eqb, eqb-true, false_from_ne_true, le-ltb, lt-ltb}
use Rattle.std.proofs.lemmas.Cmp.{by_ranked, ranked}
use Rattle.std.proofs.lemmas.List.{length-append, length-map, get_or_append_left, get_or-append_right, get_or_default, get_or-map}
use Rattle.std.proofs.lemmas.List.Elements.{Contains-get_or}
use Rattle.std.proofs.lemmas.List.Kept.{AllPairs-filter}
use Rattle.std.proofs.lemmas.List.Sums.{position_or_len_is}
use Rattle.rw_spec.proofs.Sequences.{contained_in_map, contained_in_flat_map}
use Rattle.rw_spec.specs.Ascending.{ascends}
use Rattle.rw_spec.proofs.Ascending.{ascends_apart, ascends_rest}
use Rattle.rw_limits.specs.inner.Fibers.{pairs_with}
use Rattle.rw_limits.specs.inner.PairLists.{IsBefore, IsLexicographic}
use Rattle.rw_limits.specs.Pairs.{agreeing, agrees, all_pairs, is_pair, place_of}

-- the comparison of pairs
abbrev pub pair_cmp : ℕ × ℕ → ℕ × ℕ → Ordering
pair_cmp a b = ordering_then (nat_cmp a.0 b.0) (nat_cmp a.1 b.1)

-- what the comparison of pairs says
pair_ranked : (a b : ℕ × ℕ) → MatchOrdering (pair_cmp a b) (IsBefore a b) ((a.0 ≡ b.0) × (a.1 ≡ b.1)) (IsBefore b a)
pair_ranked a b = both (nat_cmp a.0 b.0) (nat_cmp a.1 b.1) (ranked a.0 b.0 (nat_cmp a.0 b.0) refl) (ranked a.1 b.1 (nat_cmp a.1 b.1) refl)
  where
    both : (first second : Ordering) → MatchOrdering first (a.0 < b.0) (a.0 ≡ b.0) (b.0 < a.0) → MatchOrdering second (a.1 < b.1) (a.1 ≡ b.1) (b.1 < a.1)
        → MatchOrdering (ordering_then first second) (IsBefore a b) ((a.0 ≡ b.0) × (a.1 ≡ b.1)) (IsBefore b a)
    both Less second below any = inl below
    both Equal Less same below = inr (same, below)
    both Equal Equal same equal = (same, equal)
    both Equal Greater same above = inr (sym same, above)
    both Greater second above any = inl above

-- a pair before another is less
before_less : (a b : ℕ × ℕ) → IsBefore a b → pair_cmp a b ≡ Less
before_less a b before =
    elim before [
      | inl below ↦ rw (lt-ltb a.0 b.0 below) refl
      | inr later ↦ rw (le-ltb a.0 b.0 (omega (arith, later.0)), eq-eqb a.0 b.0 later.0, lt-ltb a.1 b.1 later.1) refl
    ]

-- no pair comes before one that equals it
before_apart : (a b : ℕ × ℕ) → IsBefore a b → a.0 ≡ b.0 → a.1 ≡ b.1 → ⊥
before_apart a b before first second =
    elim before [
      | inl below ↦ omega arith
      | inr later ↦ omega (arith, later.1)
    ]

-- what comes before a pair comes before those after it
before_trans : (a b p : ℕ × ℕ) → IsBefore a b → IsBefore b p → IsBefore a p
before_trans a b p before after =
    elim before [
      | inl below ↦ elim after [ inl next ↦ inl (omega arith) | inr later ↦ inl (omega (arith, later.0)) ]
      | inr same ↦ elim after [ inl next ↦ inl (omega (arith, same.0)) | inr later ↦ inr (same.0 ∙ later.0, omega (arith, same.1, later.1)) ]
    ]

-- what comes before a pair comes before one that equals it
before_moved : (a b p : ℕ × ℕ) → IsBefore a b → b.0 ≡ p.0 → b.1 ≡ p.1 → IsBefore a p
before_moved a b p before first second =
    elim before [
      | inl below ↦ inl (omega arith)
      | inr later ↦ inr (later.0 ∙ first, omega (arith, later.1))
    ]

-- no answer stands after `Greater`
index_most : (answer : Ordering) → ordering_index answer ≤ 2
index_most Less = omega arith
index_most Equal = omega arith
index_most Greater = omega arith

-- the comparisons with a pair rise along the order
comparison_rises : (a b p : ℕ × ℕ) → IsBefore a b → ordering_index (pair_cmp a p) ≤ ordering_index (pair_cmp b p)
comparison_rises a b p before =
    by_ranked (IsBefore b p) ((b.0 ≡ p.0) × (b.1 ≡ p.1)) (IsBefore p b) (pair_cmp b p) (pair_ranked b p)
    (λ less after. rw (before_less a p (before_trans a b p before after)) (omega arith))
    (λ equal same. rw (before_less a p (before_moved a b p before same.0 same.1)) (omega arith))
    (λ greater after. subst (λ answer. ordering_index (pair_cmp a p) ≤ ordering_index answer) (sym greater) (index_most (pair_cmp a p)))

-- of pairs in order, the comparisons with one rise
comparisons_rise : (pairs : List (ℕ × ℕ)) (p : ℕ × ℕ) → IsLexicographic pairs → IsNonDecreasingBy (λ other. ordering_index (pair_cmp other p)) pairs
comparisons_rise pairs p up i j d before within =
    elim (cases_order i j) [
      | inl same ↦ rw same (omega arith)
      | inr other ↦ elim other [
        | inl below ↦ comparison_rises (get_or pairs i d) (get_or pairs j d) p (up i j d below within)
        | inr above ↦ absurd (omega arith)
      ]
    ]

-- a pair before or after another is another one
other_pair : (a : ℕ × ℕ) (x y : ℕ) → ((a.0 ≡ x) → (a.1 ≡ y) → ⊥) → is_pair x y a ≡ false
other_pair a x y apart =
    false_from_ne_true (is_pair x y a) (λ same.
    let parts = and_parts (a.0 == x) (a.1 == y) same in
    apart (eqb-true a.0 x parts.0) (eqb-true a.1 y parts.1))

-- where a search finds an equal pair is the place of the pair
pub place_equal : (pairs : List (ℕ × ℕ)) (x y k : ℕ) → IsLexicographic pairs → k < length pairs
    → HoldsAt (λ other. pair_cmp other (x, y) ≡ Equal) pairs k → k ≡ place_of pairs x y
place_equal pairs x y k up within equal =
    let found : ℕ × ℕ = get_or pairs k (0, 0) in
    let same : (found.0 ≡ x) × (found.1 ≡ y) =
    subst (λ answer. MatchOrdering answer (IsBefore found (x, y)) ((found.0 ≡ x) × (found.1 ≡ y)) (IsBefore (x, y) found)) (equal (0, 0)) (pair_ranked found (x, y)) in
    sym (position_or_len_is (is_pair x y) pairs k (0, 0) (omega arith)
    (λ j below. other_pair (get_or pairs j (0, 0)) x y (λ first second.
    before_apart (get_or pairs j (0, 0)) found (up j k (0, 0) below within) (first ∙ sym same.0) (second ∙ sym same.1)))
    (λ here. and_from (found.0 == x) (found.1 == y) (eq-eqb found.0 x same.0) (eq-eqb found.1 y same.1)))

-- where a search finds no equal pair, the pair is none of them
pub place_missing : (pairs : List (ℕ × ℕ)) (x y k : ℕ) → IsLexicographic pairs
    → (IsNonDecreasingBy (λ other. ordering_index (pair_cmp other (x, y))) pairs
    → IsPartitionPoint (λ other. pair_cmp other (x, y) ≡ Less) (λ other. pair_cmp other (x, y) ≡ Greater) pairs k)
    → length pairs ≡ place_of pairs x y
place_missing pairs x y k up parted =
    let sides = parted (comparisons_rise pairs (x, y) up) in
    let at = λ (j : ℕ). get_or pairs j (0, 0) in
    let ranks = λ (j : ℕ) (answer : Ordering). MatchOrdering answer (IsBefore (at j) (x, y)) (((at j).0 ≡ x) × ((at j).1 ≡ y)) (IsBefore (x, y) (at j)) in
    sym (position_or_len_is (is_pair x y) pairs (length pairs) (0, 0) (omega arith)
    (λ j within. other_pair (at j) x y (λ first second. elim (cases_lt j k) [
      | inl below ↦ before_apart (at j) (x, y) (subst (ranks j) (sides.0 j (0, 0) (omega arith) below) (pair_ranked (at j) (x, y))) first second
      | inr above ↦ before_apart (x, y) (at j) (subst (ranks j) (sides.1 j (0, 0) above within) (pair_ranked (at j) (x, y))) (sym first) (sym second)
    ]))
    (λ within. absurd (omega arith)))

-- of two lists in order, where all of the first come before all of the second
pairs_append : (xs ys : List (ℕ × ℕ)) → IsLexicographic xs → IsLexicographic ys → ((p q : ℕ × ℕ) → Contains xs p → Contains ys q → IsBefore p q) → IsLexicographic (xs ++ ys)
pairs_append xs ys first second across i j d before within =
    let n = length xs in
    let long = length-append xs ys in
    elim (cases_lt j n) [
      | inl below ↦
          let i_below : i < n = omega arith in
          rw (get_or_append_left xs ys d i i_below, get_or_append_left xs ys d j below) (first i j d before below)
      | inr above ↦
          let j_within : j - n < length ys = omega arith in
          elim (cases_lt i n) [
            | inl below ↦
                rw (get_or_append_left xs ys d i below, get_or-append_right xs ys n j d refl above)
                (across (get_or xs i d) (get_or ys (j - n) d) (Contains-get_or xs i d below) (Contains-get_or ys (j - n) d j_within))
            | inr past ↦
                rw (get_or-append_right xs ys n i d refl past, get_or-append_right xs ys n j d refl above)
                (second (i - n) (j - n) d (omega arith) j_within)
          ]
    ]

-- the pairs of one name with ascending names are in order
pairs_with_ordered : (x : ℕ) (ys : List ℕ) → ascends ys ≡ true → IsLexicographic (pairs_with x ys)
pairs_with_ordered x ys up i j d before within =
    let paired : ℕ → ℕ × ℕ = λ y. (x, y) in
    let j_within : j < length ys = rw (length-map ys paired) at within in
    let i_within : i < length ys = omega arith in
    rw (get_or-map paired ys i 0 d i_within, get_or-map paired ys j 0 d j_within) (inr (refl, ascends_apart ys i j up before j_within))

-- each name after the first of ascending names is greater
first_below : (x : ℕ) (xs : List ℕ) (z : ℕ) → ascends (x ∷ xs) ≡ true → Contains xs z → x < z
first_below x xs z up (k, within, there) =
    let below : x < get_or xs k 0 = ascends_apart (x ∷ xs) 0 (suc k) up (omega arith) (omega arith) in
    let same : get_or xs k 0 ≡ z = get_or_default xs k 0 z within ∙ there in
    omega arith

-- all pairs of ascending names are in order
all_pairs_ordered : (xs ys : List ℕ) → ascends xs ≡ true → ascends ys ≡ true → IsLexicographic (all_pairs xs ys)
all_pairs_ordered [] ys up up_right = λ i j d before within. absurd (omega arith)
all_pairs_ordered (x ∷ xs) ys up up_right =
    pairs_append (pairs_with x ys) (all_pairs xs ys) (pairs_with_ordered x ys up_right) (all_pairs_ordered xs ys (ascends_rest x xs up) up_right) (λ p q here later.
    let one : (y : ℕ) × Contains ys y × ((x, y) ≡ p) = contained_in_map {Y = ℕ × ℕ} (λ y. (x, y)) ys p here in
    let row : (z : ℕ) × Contains xs z × Contains (pairs_with z ys) q = contained_in_flat_map {Y = ℕ × ℕ} (λ z. pairs_with z ys) xs q later in
    let other : (y : ℕ) × Contains ys y × ((row.0, y) ≡ q) = contained_in_map {Y = ℕ × ℕ} (λ y. (row.0, y)) ys q row.2 in
    let first : x ≡ p.0 = ap (λ (pair : ℕ × ℕ). pair.0) one.2 in
    let second : row.0 ≡ q.0 = ap (λ (pair : ℕ × ℕ). pair.0) other.2 in
    let below : x < row.0 = first_below x xs row.0 up row.1 in
    inl (omega arith))

-- the agreeing pairs of ascending names are in order
pub agreeing_ordered : (f g : ℕ → ℕ) (xs ys : List ℕ) → ascends xs ≡ true → ascends ys ≡ true → IsLexicographic (agreeing f g xs ys)
agreeing_ordered f g xs ys up up_right = AllPairs-filter IsBefore (agrees f g) (all_pairs xs ys) (all_pairs_ordered xs ys up up_right)
