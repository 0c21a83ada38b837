-- Each finite list of joins has its classes.
use Rattle.std.proofs.Common.{◌≡◌, ◌∙◌, ◌==◌, ◌<◌, ◌≤◌, ℕ, Bool, true, false, nat_lt, cond, filter, map, List, [], ◌∷◌, Contains, length, slice_index, refl, sym, ap, inl, inr, arith, zero-add, eqb-true}
use Rattle.std.specs.List.{range_with_len}
use Rattle.std.proofs.lemmas.Bool.{cases_eq, eq-eqb, ltb-false, ltb-true, ne_eqb}
use Rattle.std.proofs.lemmas.List.Elements.{All-nil, All-cons, All-contains, All-weaker, All-contains_itself, Contains-get_or}
use Rattle.std.proofs.lemmas.List.FromFn.{length-map-range_with_len, get_or-map-range_with_len}
use Rattle.rw_spec.specs.Ascending.{ascends}
use Rattle.rw_spec.proofs.Sequences.{contains_filter, contained_in_filter, contains_here, contains_later}
use Rattle.rw_spec.proofs.Ascending.{ascends_apart, ascends_distinct, ascends_filter}
use Rattle.rw_spec.proofs.Ranges.{range_ascends, range_below, range_has}
use Rattle.rw_classes.specs.Classes.{Joins, AreNumbered, AreClasses}
use Rattle.rw_classes.specs.Places.{spot}
use Rattle.rw_classes.proofs.Sides.{spot_within, spot_here, spot_at}

-- each number has the least of its class
pub record AreLeast (pairs : List (ℕ × ℕ)) (rep : ℕ → ℕ) : Type 0 where
  pub least : (x : ℕ) → rep x ≤ x
  pub settled : (x : ℕ) → rep (rep x) ≡ rep x
  pub joins : Joins pairs rep
  pub finest : (h : ℕ → ℕ) → Joins pairs h → (x : ℕ) → h (rep x) ≡ h x

-- what is joined by all pairs is joined by the first
first_joined : (pair : ℕ × ℕ) (pairs : List (ℕ × ℕ)) (h : ℕ → ℕ) → Joins (pair ∷ pairs) h → h pair.0 ≡ h pair.1
first_joined pair pairs h all = All-contains (λ (pair : ℕ × ℕ). h pair.0 ≡ h pair.1) (pair ∷ pairs) pair all (contains_here pair pairs)

-- and by the others
rest_joined : (pair : ℕ × ℕ) (pairs : List (ℕ × ℕ)) (h : ℕ → ℕ) → Joins (pair ∷ pairs) h → Joins pairs h
rest_joined pair pairs h all =
    All-weaker (Contains pairs) (λ (pair : ℕ × ℕ). h pair.0 ≡ h pair.1)
    (λ other there. All-contains (λ (pair : ℕ × ℕ). h pair.0 ≡ h pair.1) (pair ∷ pairs) other all (contains_later pair pairs other there))
    pairs (All-contains_itself pairs)

-- the class of the one is put to that of the other
abbrev pub merged : (ℕ → ℕ) → ℕ → ℕ → ℕ → ℕ
merged rep low high x = cond (rep x == high) low (rep x)

module _ (pairs : List (ℕ × ℕ)) (rep : ℕ → ℕ) (are : AreLeast pairs rep) (u v : ℕ) (order : rep u ≤ rep v) where
  -- a number of the greater class goes to the lesser
  merged_high : (x : ℕ) → rep x ≡ rep v → merged rep (rep u) (rep v) x ≡ rep u
  merged_high x is = rw (eq-eqb (rep x) (rep v) is) refl

  -- a number of another class stays
  merged_other : (x : ℕ) → (rep x ≡ rep v → ⊥) → merged rep (rep u) (rep v) x ≡ rep x
  merged_other x other = rw (ne_eqb (rep x) (rep v) other) refl

  -- the lesser number stays
  merged_low : (x : ℕ) → rep x ≡ rep u → merged rep (rep u) (rep v) x ≡ rep u
  merged_low x is =
      elim (cases_eq (rep x) (rep v)) [
        | inl high ↦ merged_high x high
        | inr other ↦ merged_other x other ∙ is
      ]

  -- no number grows
  merged_least : (x : ℕ) → merged rep (rep u) (rep v) x ≤ x
  merged_least x =
      let low : rep x ≤ x = are.least x in
      elim (cases_eq (rep x) (rep v)) [
        | inl high ↦ let is : merged rep (rep u) (rep v) x ≡ rep u = merged_high x high in omega (arith, is, high, low, order)
        | inr other ↦ let is : merged rep (rep u) (rep v) x ≡ rep x = merged_other x other in omega (arith, is, low)
      ]

  -- a least number is its own
  merged_settled : (x : ℕ) → merged rep (rep u) (rep v) (merged rep (rep u) (rep v) x) ≡ merged rep (rep u) (rep v) x
  merged_settled x =
      elim (cases_eq (rep x) (rep v)) [
        | inl high ↦
            let is : merged rep (rep u) (rep v) x ≡ rep u = merged_high x high in
            ap (merged rep (rep u) (rep v)) is ∙ merged_low (rep u) (are.settled u) ∙ sym is
        | inr other ↦
            let is : merged rep (rep u) (rep v) x ≡ rep x = merged_other x other in
            ap (merged rep (rep u) (rep v)) is ∙ merged_other (rep x) (λ same. other (sym (are.settled x) ∙ same)) ∙ are.settled x ∙ sym is
      ]

  -- no more is joined than has to be
  merged_finest : (h : ℕ → ℕ) → Joins pairs h → h u ≡ h v → (x : ℕ) → h (merged rep (rep u) (rep v) x) ≡ h x
  merged_finest h joins same x =
      elim (cases_eq (rep x) (rep v)) [
        | inl high ↦ ap h (merged_high x high) ∙ are.finest h joins u ∙ same ∙ sym (are.finest h joins v) ∙ ap h (sym high) ∙ are.finest h joins x
        | inr other ↦ ap h (merged_other x other) ∙ are.finest h joins x
      ]

  -- so one pair more is joined
  merged_are : (pair : ℕ × ℕ) → ((f : ℕ → ℕ) → f u ≡ f v → f pair.0 ≡ f pair.1) → ((f : ℕ → ℕ) → f pair.0 ≡ f pair.1 → f u ≡ f v)
      → AreLeast (pair ∷ pairs) (merged rep (rep u) (rep v))
  merged_are pair onward back = record {
    least = merged_least;
    settled = merged_settled;
    joins = All-cons (λ (pair : ℕ × ℕ). merged rep (rep u) (rep v) pair.0 ≡ merged rep (rep u) (rep v) pair.1) pair pairs
        (onward (merged rep (rep u) (rep v)) (merged_low u refl ∙ sym (merged_high v refl)))
        (All-weaker (λ (pair : ℕ × ℕ). rep pair.0 ≡ rep pair.1) (λ (pair : ℕ × ℕ). merged rep (rep u) (rep v) pair.0 ≡ merged rep (rep u) (rep v) pair.1)
        (λ (other : ℕ × ℕ) is. ap (λ (r : ℕ). cond (r == rep v) (rep u) r) is) pairs are.joins);
    finest = λ h joins x. merged_finest h (rest_joined pair pairs h joins) (back h (first_joined pair pairs h joins)) x;
  }

-- where the one function has least numbers in one case and the other in the other, so has what is chosen of them
least_either : (pairs : List (ℕ × ℕ)) (first : Bool) (one other : ℕ → ℕ) → (first ≡ true → AreLeast pairs one) → (first ≡ false → AreLeast pairs other)
    → AreLeast pairs (λ x. cond first (one x) (other x))
least_either pairs true one other in_first in_second = in_first refl
least_either pairs false one other in_first in_second = in_second refl

-- the least number that pairs join a number with: the later pairs first, and then the greater one of the first pair goes to the lesser
abbrev pub least_joined : List (ℕ × ℕ) → ℕ → ℕ
least_joined [] x = x
least_joined (pair ∷ pairs) x =
    cond (nat_lt (least_joined pairs pair.1) (least_joined pairs pair.0))
    (merged (least_joined pairs) (least_joined pairs pair.1) (least_joined pairs pair.0) x)
    (merged (least_joined pairs) (least_joined pairs pair.0) (least_joined pairs pair.1) x)

-- these are least numbers
least_is : (pairs : List (ℕ × ℕ)) → AreLeast pairs (least_joined pairs)
least_is [] = record {
  least = λ x. omega arith;
  settled = λ x. refl;
  joins = All-nil (λ (pair : ℕ × ℕ). pair.0 ≡ pair.1);
  finest = λ h joins x. refl;
}
least_is (pair ∷ pairs) =
    let rep : ℕ → ℕ = least_joined pairs in
    least_either (pair ∷ pairs) (nat_lt (rep pair.1) (rep pair.0)) (merged rep (rep pair.1) (rep pair.0)) (merged rep (rep pair.0) (rep pair.1))
    (λ less.
    let below : rep pair.1 < rep pair.0 = ltb-true (rep pair.1) (rep pair.0) less in
    merged_are pairs rep (least_is pairs) pair.1 pair.0 (omega (arith, below)) pair (λ f is. sym is) (λ f is. sym is))
    (λ more.
    let above : rep pair.0 ≤ rep pair.1 = ltb-false (rep pair.1) (rep pair.0) more in
    merged_are pairs rep (least_is pairs) pair.0 pair.1 above pair (λ f is. is) (λ f is. is))

-- of the numbers below n those with which classes begin
abbrev pub firsts_of : ℕ → List (ℕ × ℕ) → List ℕ
firsts_of n pairs = filter (λ x. least_joined pairs x == x) (range_with_len 0 n)

-- and the class of each
abbrev pub numbers_of : ℕ → List (ℕ × ℕ) → List ℕ
numbers_of n pairs = map (λ x. spot (firsts_of n pairs) (least_joined pairs x)) (range_with_len 0 n)

module _ (n : ℕ) (pairs : List (ℕ × ℕ)) (within : (pair : ℕ × ℕ) → Contains pairs pair → (pair.0 < n) × (pair.1 < n)) where
  -- the least number that each is joined with
  abbrev rep : ℕ → ℕ
  rep = least_joined pairs

  -- the numbers with which classes begin
  abbrev firsts : List ℕ
  firsts = firsts_of n pairs

  -- the class of each number
  abbrev numbers : List ℕ
  numbers = numbers_of n pairs

  -- classes begin in ascending order
  firsts_ascend : ascends firsts ≡ true
  firsts_ascend = ascends_filter (λ x. rep x == x) (range_with_len 0 n) (range_ascends 0 n)

  -- the number of a class stands at each of its members
  number_is : (x : ℕ) → x < n → slice_index numbers x ≡ spot firsts (rep x)
  number_is x below = get_or-map-range_with_len (λ x. spot firsts (rep x)) 0 n x x 0 below (zero-add x)

  -- the least of a class begins it
  begins_with : (x : ℕ) → x < n → Contains firsts (rep x)
  begins_with x below =
      let are = least_is pairs in
      let low : rep x ≤ x = are.least x in
      contains_filter (λ x. rep x == x) (range_with_len 0 n) (rep x) (range_has n (rep x) (omega (arith, low))) (eq-eqb (rep (rep x)) (rep x) (are.settled x))

  -- the first of a class
  first_is : (k : ℕ) → k < length firsts → (slice_index firsts k < n) × (rep (slice_index firsts k) ≡ slice_index firsts k)
  first_is k below =
      let e : ℕ = slice_index firsts k in
      let there = contained_in_filter (λ x. rep x == x) (range_with_len 0 n) e (Contains-get_or firsts k 0 below) in
      (range_below n e there.0, eqb-true (rep e) e there.1)

  -- the classes are numbered by their first numbers
  are_numbered : AreNumbered n numbers firsts
  are_numbered = record {
    each = length-map-range_with_len (λ x. spot firsts (rep x)) 0 n;
    within = λ x below. rw (number_is x below) (spot_within firsts (rep x) (begins_with x below));
    least = λ x below. rw (number_is x below, spot_here firsts (rep x) (begins_with x below)) ((least_is pairs).least x);
    found = λ k below.
        let first = first_is k below in
        number_is (slice_index firsts k) first.0 ∙ ap (spot firsts) first.1 ∙ spot_at firsts k (ascends_distinct firsts firsts_ascend) below;
    below = λ k below. (first_is k below).0;
    ascend = λ i k before below. ascends_apart firsts i k firsts_ascend before below;
  }

  -- each finite list of joins has its classes
  pub classes_exist : AreClasses n pairs (numbers_of n pairs) (firsts_of n pairs)
  classes_exist =
      let are = least_is pairs in
      record {
        numbered = are_numbered;
        joins =
            All-weaker (λ pair. Contains pairs pair × (rep pair.0 ≡ rep pair.1)) (λ (pair : ℕ × ℕ). slice_index numbers pair.0 ≡ slice_index numbers pair.1)
            (λ (pair : ℕ × ℕ) known.
            let inside = within pair known.0 in
            number_is pair.0 inside.0 ∙ ap (spot firsts) known.1 ∙ sym (number_is pair.1 inside.1))
            pairs
            (All-weaker (Contains pairs) (λ pair. Contains pairs pair × (rep pair.0 ≡ rep pair.1))
            (λ (pair : ℕ × ℕ) there. (there, All-contains (λ (pair : ℕ × ℕ). rep pair.0 ≡ rep pair.1) pairs pair are.joins there)) pairs (All-contains_itself pairs));
        finest = λ h joins x below. rw (number_is x below, spot_here firsts (rep x) (begins_with x below)) (are.finest h joins x);
      }
