-- Lists that are made place by place, and what stands at their places.
use Rattle.std.proofs.Common.{Bool, Contains, find, option_map, position, ◌≡◌, ◌∙◌, ◌<◌, ◌+◌, ◌-◌, ℕ, zero, suc, List, [], ◌∷◌, ◌++◌, Option, Some, None, get_or, length, map, nat_lt, slice_get, slice_index, option_and_then, refl, sym, ap, inl, inr, arith}
use Rattle.std.specs.List.{position_or_len, range_with_len}
use Rattle.std.proofs.lemmas.List.Elements.{Contains-get_or}
use Rattle.std.proofs.lemmas.List.Folds.{find_at}
use Rattle.std.proofs.lemmas.Option.{slice_get-map, slice_get_past}
use Rattle.std.proofs.lemmas.Bool.{cases_Bool, cases_lt, ltb-false}
use Rattle.std.proofs.lemmas.List.{get_or-map, get_or_append_left, get_or-append_right, length-map}
use Rattle.rw_schema.specs.First.{map_in}
use Rattle.rw_classes.specs.Merging.{cell_at}
use Rattle.rw_classes.specs.Places.{either}
use Rattle.rw_classes.proofs.Sides.{either_left, either_right}
use Rattle.rw_schema.specs.declared.atom.Atom.{Atom}

-- names that are all there are those that are wrapped
pub unwrapped : (xs ys : List ℕ) (f : ℕ → ℕ) → map (λ x. Some x) xs ≡ map (λ y. Some (f y)) ys → xs ≡ map f ys
unwrapped [] [] f same = refl
unwrapped [] (y ∷ ys) f same = cc
unwrapped (x ∷ xs) [] f same = cc
unwrapped (x ∷ xs) (y ∷ ys) f same =
    let first : x ≡ f y = cc in
    let rest : map (λ x. Some x) xs ≡ map (λ y. Some (f y)) ys = cc in
    rw (first, unwrapped xs ys f rest) refl

-- a list of which each item is what f gives at its place is a map
pub all_mapped : {A : Type 0} (none : A) (f : ℕ → A) (n start : ℕ) (items : List A) → length items ≡ n
    → ((place : ℕ) → place < n → get_or items place none ≡ f (start + place)) → items ≡ map f (range_with_len start n)
all_mapped none f zero start [] long each = refl
all_mapped none f zero start (x ∷ xs) long each = absurd (omega (arith, long))
all_mapped none f (suc n) start [] long each = absurd (omega (arith, long))
all_mapped none f (suc n) start (x ∷ xs) long each =
    let zeroth : start + zero ≡ start = omega arith in
    let first : x ≡ f start = each zero (omega arith) ∙ ap f zeroth in
    let rest : xs ≡ map f (range_with_len (start + 1) n) = all_mapped none f n (start + 1) xs (omega (arith, long)) (λ place within.
    let same : start + suc place ≡ (start + 1) + place = omega arith in
    each (suc place) (omega arith) ∙ ap f same) in
    rw (first, rest) refl

-- and so is one of which each item is what f gives of its place and the item there of another list
pub all_mapped_in : {X A : Type 0} (none : A) (f : ℕ → X → A) (start : ℕ) (xs : List X) (items : List A) → length items ≡ length xs
    → ((place : ℕ) (x : X) → slice_get xs place ≡ Some x → get_or items place none ≡ f (start + place) x) → items ≡ map_in f start xs
all_mapped_in none f start [] [] long each = refl
all_mapped_in none f start [] (item ∷ items) long each = absurd (omega (arith, long))
all_mapped_in none f start (x ∷ xs) [] long each = absurd (omega (arith, long))
all_mapped_in none f start (x ∷ xs) (item ∷ items) long each =
    let zeroth : start + zero ≡ start = omega arith in
    let first : item ≡ f start x = each zero x refl ∙ ap (λ (k : ℕ). f k x) zeroth in
    let rest : items ≡ map_in f (start + 1) xs = all_mapped_in none f (start + 1) xs items (omega (arith, long)) (λ place y there.
    let same : start + suc place ≡ (start + 1) + place = omega arith in
    each (suc place) y there ∙ ap (λ (k : ℕ). f k y) same) in
    rw (first, rest) refl

-- the cells of both sides, one behind the other, by place
pub cells_either : (left right : List ℕ) (f g : ℕ → Option Atom) (e : ℕ) → e < length left + length right
    → cell_at (map f left ++ map g right) e ≡ either left right f g e
cells_either left right f g e within =
    elim (cases_lt e (length left)) [
      | inl before ↦
          let first : get_or (map f left ++ map g right) e None ≡ get_or (map f left) e None =
          get_or_append_left (map f left) (map g right) None e (rw (length-map left f) before) in
          first ∙ get_or-map f left e 0 None before ∙ sym (either_left left right f g e before)
      | inr past ↦
          let there : e - length left < length right = omega arith in
          get_or-append_right (map f left) (map g right) (length left) e None (length-map left f) past
          ∙ get_or-map g right (e - length left) 0 None there ∙ sym (either_right left right f g e past)
    ]

-- either side gives the same where the functions agree on it
pub either_same : (left right : List ℕ) (f f' g g' : ℕ → Option Atom) (e : ℕ) → e < length left + length right
    → ((x : ℕ) → Contains left x → f x ≡ f' x) → ((y : ℕ) → Contains right y → g y ≡ g' y) → either left right f g e ≡ either left right f' g' e
either_same left right f f' g g' e within first second =
    elim (cases_lt e (length left)) [
      | inl before ↦
          either_left left right f g e before ∙ first (get_or left e 0) (Contains-get_or left e 0 before) ∙ sym (either_left left right f' g' e before)
      | inr past ↦
          let there : e - length left < length right = omega arith in
          either_right left right f g e past ∙ second (get_or right (e - length left) 0) (Contains-get_or right (e - length left) 0 there)
          ∙ sym (either_right left right f' g' e past)
    ]

-- two ways of pairing what f gives of the places with what stands there in another list
pub paired : (f : ℕ → ℕ) (ys : List ℕ) (a b : ℕ → ℕ) (start n : ℕ)
    → map_in {A = ℕ × ℕ} (λ k x. (a x, b (slice_index ys k))) start (map f (range_with_len start n)) ≡ map {B = ℕ × ℕ} (λ z. (a (f z), b (slice_index ys z))) (range_with_len start n)
paired f ys a b start zero = refl
paired f ys a b start (suc n) = ap (λ rest. (a (f start), b (slice_index ys start)) ∷ rest) (paired f ys a b (start + 1) n)

-- where the values of two options agree, the one is what the other gives
one_value : {S : Type 0} (value : S → Option Atom) (found : Option S) (there : Option Atom) → option_map value found ≡ option_map (λ atom. Some atom) there
    → there ≡ option_and_then value found
one_value value None None same = refl
one_value value None (Some atom) same = cc
one_value value (Some set) None same = cc
one_value value (Some set) (Some atom) same = let is : value set ≡ Some atom = cc in sym is

-- the values that are there are found where what they are values of is found
pub value_found : {S : Type 0} (value : S → Option Atom) (test : S → Bool) (sets : List S) (values : List Atom) → map value sets ≡ map (λ atom. Some atom) values
    → option_and_then (slice_get values) (position test sets) ≡ option_and_then value (find test sets)
value_found value test sets values same =
    let k : ℕ = position_or_len test sets in
    let found : find test sets ≡ slice_get sets k = find_at test sets in
    elim (cases_Bool (nat_lt k (length sets))) [
      | inl within ↦
          let at : position test sets ≡ Some k = rw within refl in
          ap (option_and_then (slice_get values)) at
          ∙ one_value value (slice_get sets k) (slice_get values k)
          (sym (slice_get-map value sets k) ∙ ap (λ list. slice_get list k) same ∙ slice_get-map (λ atom. Some atom) values k)
          ∙ ap (option_and_then value) (sym found)
      | inr past ↦
          let nowhere : position test sets ≡ None = rw past refl in
          ap (option_and_then (slice_get values)) nowhere
          ∙ ap (option_and_then value) (sym (found ∙ slice_get_past sets k (ltb-false k (length sets) past)))
    ]
