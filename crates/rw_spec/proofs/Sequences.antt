-- Lists that are made from other lists, place by place, and what they contain.
use Rattle.std.proofs.Common.{◌≡◌, ℕ, zero, suc, ◌+◌, ◌<◌, inl, inr, Bool, true, false, ◌&&◌, cond, Some, List, [], ◌∷◌, ◌++◌, All, Contains, filter, map, length, get_or, take, drop, slice_get, refl, sym, ap, ◌∙◌, add-one, add-zero, zero-add, arith, drop-cons}
use Rattle.std.specs.List.{flat_map, list_all}
use Rattle.std.proofs.lemmas.Bool.{and_parts}
use Rattle.std.proofs.lemmas.List.{append_assoc, append-nil, take_more, length-take-le, length-map, get_or-map}
use Rattle.std.proofs.lemmas.List.Elements.{All-nil, All-cons, All-weaker, All-contains, All-contains_itself, All-filter, All-map, Contains-append_left, Contains-append_right, Contains-append_cases, filter_passes}
use Rattle.std.proofs.lemmas.List.Sums.{AllPass-from_list_all, list_all-from_AllPass}
use Rattle.rw_schema.specs.First.{map_in, flat_map_in, all_in}

-- the first item is contained
pub contains_here : {X : Type 0} (x : X) (xs : List X) → Contains (x ∷ xs) x
contains_here x xs = (0, omega arith, refl)

-- an item that equals the first is contained
pub contains_first : {X : Type 0} (x y : X) (xs : List X) → x ≡ y → Contains (x ∷ xs) y
contains_first x y xs same = (0, omega arith, same)

-- what the rest contains, the list contains
pub contains_later : {X : Type 0} (y : X) (xs : List X) (x : X) → Contains xs x → Contains (y ∷ xs) x
contains_later y xs x there = Contains-append_right (y ∷ []) xs x there

-- the empty list contains nothing
pub contains_none : {X : Type 0} (x : X) → Contains [] x → ⊥
contains_none x there = omega (arith, there.1)

-- an item at a place is contained
pub contains_at : {X : Type 0} (xs : List X) (k : ℕ) (x : X) → slice_get xs k ≡ Some x → Contains xs x
contains_at [] k x there = let no : ⊥ = cc in absurd no
contains_at (y ∷ xs) zero x there =
    contains_first y x xs cc
contains_at (y ∷ xs) (suc k) x there = contains_later y xs x (contains_at xs k x there)

-- a filter contains the items that pass
pub contains_filter : {X : Type 0} (p : X → Bool) (xs : List X) (x : X) → Contains xs x → p x ≡ true → Contains (filter p xs) x
contains_filter p xs x there = All-contains (λ x. p x ≡ true → Contains (filter p xs) x) xs x (kept p xs) there
  where
    kept : {X : Type 0} (p : X → Bool) (xs : List X) → All (λ x. p x ≡ true → Contains (filter p xs) x) xs
    kept p [] = All-nil (λ x. p x ≡ true → Contains (filter p []) x)
    kept p (y ∷ xs) = All-cons (λ x. p x ≡ true → Contains (filter p (y ∷ xs)) x) y xs
        (λ passed. rw passed (contains_here y (filter p xs)))
        (All-weaker (λ x. p x ≡ true → Contains (filter p xs) x) (λ x. p x ≡ true → Contains (filter p (y ∷ xs)) x)
        (λ x there passed. elim (p y) as (λ b. Contains (cond b (y ∷ filter p xs) (filter p xs)) x)
        [ true ↦ contains_later y (filter p xs) x (there passed) | false ↦ there passed ])
        xs (kept p xs))

-- what a filter contains, the list contains, and it passes
pub contained_in_filter : {X : Type 0} (p : X → Bool) (xs : List X) (x : X) → Contains (filter p xs) x → Contains xs x × (p x ≡ true)
contained_in_filter p xs x there = (
  All-contains (Contains xs) (filter p xs) x (All-filter p (Contains xs) xs (All-contains_itself xs)) there,
  All-contains (λ x. p x ≡ true) (filter p xs) x (filter_passes p xs) there,
)

-- a map contains the image of each item
pub contains_map : {X Y : Type 0} (f : X → Y) (xs : List X) (x : X) → Contains xs x → Contains (map f xs) (f x)
contains_map f xs x there =
    (there.0, rw (length-map xs f) there.1, get_or-map f xs there.0 x (f x) there.1 ∙ ap f there.2)

-- what a map contains is the image of an item
pub contained_in_map : {X Y : Type 0} (f : X → Y) (xs : List X) (y : Y) → Contains (map f xs) y → (x : X) × Contains xs x × (f x ≡ y)
contained_in_map {X} {Y} f xs y there =
    All-contains (λ (y : Y). (x : X) × Contains xs x × (f x ≡ y)) (map f xs) y
    (All-map (λ (y : Y). (x : X) × Contains xs x × (f x ≡ y)) f xs
    (All-weaker (Contains xs) (λ z. (x : X) × Contains xs x × (f x ≡ f z)) (λ x within. (x, within, refl)) xs (All-contains_itself xs)))
    there

-- lists joined end to end contain what the list of an item contains
pub contains_flat_map : {X Y : Type 0} (f : X → List Y) (xs : List X) (x : X) (y : Y) → Contains xs x → Contains (f x) y → Contains (flat_map f xs) y
contains_flat_map f xs x y there = All-contains (λ x. Contains (f x) y → Contains (flat_map f xs) y) xs x (each f xs y) there
  where
    each : {X Y : Type 0} (f : X → List Y) (xs : List X) (y : Y) → All (λ x. Contains (f x) y → Contains (flat_map f xs) y) xs
    each f [] y = All-nil (λ x. Contains (f x) y → Contains (flat_map f []) y)
    each f (z ∷ xs) y = All-cons (λ x. Contains (f x) y → Contains (flat_map f (z ∷ xs)) y) z xs
        (λ within. Contains-append_left (f z) (flat_map f xs) y within)
        (All-weaker (λ x. Contains (f x) y → Contains (flat_map f xs) y) (λ x. Contains (f x) y → Contains (flat_map f (z ∷ xs)) y)
        (λ x later within. Contains-append_right (f z) (flat_map f xs) y (later within)) xs (each f xs y))

-- what lists joined end to end contain, the list of an item contains
pub contained_in_flat_map : {X Y : Type 0} (f : X → List Y) (xs : List X) (y : Y) → Contains (flat_map f xs) y → (x : X) × Contains xs x × Contains (f x) y
contained_in_flat_map f [] y there = absurd (contains_none y there)
contained_in_flat_map {X} {Y} f (x ∷ xs) y there =
    elim (Contains-append_cases (f x) (flat_map f xs) y there) [
      | inl here ↦ (x, contains_here x xs, here)
      | inr later ↦
          let found : (x : X) × Contains xs x × Contains (f x) y = contained_in_flat_map f xs y later in
          (found.0, contains_later x xs found.0 found.1, found.2)
    ]

-- a map with places contains what it gives at each place
pub contains_map_in : {X A : Type 0} (f : ℕ → X → A) (i : ℕ) (xs : List X) (k : ℕ) (x : X) → slice_get xs k ≡ Some x → Contains (map_in f i xs) (f (i + k) x)
contains_map_in f i [] k x there = let no : ⊥ = cc in absurd no
contains_map_in f i (y ∷ xs) zero x there =
    let same : y ≡ x = cc in
    contains_first (f i y) (f (i + zero) x) (map_in f (i + 1) xs) (rw (add-zero, same) refl)
contains_map_in f i (y ∷ xs) (suc k) x there =
    let same : (i + 1) + k ≡ i + suc k = omega arith in
    rw (← same) (contains_later (f i y) (map_in f (i + 1) xs) (f ((i + 1) + k) x) (contains_map_in f (i + 1) xs k x there))

-- what a map with places contains, it gives at a place
pub contained_in_map_in : {X A : Type 0} (f : ℕ → X → A) (i : ℕ) (xs : List X) (a : A) → Contains (map_in f i xs) a
    → (k : ℕ) × (x : X) × (slice_get xs k ≡ Some x) × (f (i + k) x ≡ a)
contained_in_map_in f i [] a there = absurd (contains_none a there)
contained_in_map_in {X} {A} f i (x ∷ xs) a there =
    elim (Contains-append_cases (f i x ∷ []) (map_in f (i + 1) xs) a there) [
      | inl here ↦ (zero, x, refl, rw add-zero (only (f i x) a here))
      | inr later ↦
          let found : (k : ℕ) × (x : X) × (slice_get xs k ≡ Some x) × (f ((i + 1) + k) x ≡ a) = contained_in_map_in f (i + 1) xs a later in
          let same : (i + 1) + found.0 ≡ i + suc found.0 = omega arith in
          (suc found.0, found.1, found.2, rw (← same) found.3)
    ]
  where
    only : {A : Type 0} (a b : A) → Contains (a ∷ []) b → a ≡ b
    only a b there = All-contains (λ b. a ≡ b) (a ∷ []) b (All-cons (λ b. a ≡ b) a [] refl (All-nil (λ b. a ≡ b))) there

-- lists joined by place contain what the list at a place contains
pub contains_flat_map_in : {X A : Type 0} (f : ℕ → X → List A) (i : ℕ) (xs : List X) (k : ℕ) (x : X) (a : A)
    → slice_get xs k ≡ Some x → Contains (f (i + k) x) a → Contains (flat_map_in f i xs) a
contains_flat_map_in f i [] k x a there within = let no : ⊥ = cc in absurd no
contains_flat_map_in f i (y ∷ xs) zero x a there within =
    let same : y ≡ x = cc in
    let here : Contains (f i y) a = rw same (rw add-zero at within) in
    Contains-append_left (f i y) (flat_map_in f (i + 1) xs) a here
contains_flat_map_in f i (y ∷ xs) (suc k) x a there within =
    let same : (i + 1) + k ≡ i + suc k = omega arith in
    let later : Contains (f ((i + 1) + k) x) a = rw same within in
    Contains-append_right (f i y) (flat_map_in f (i + 1) xs) a (contains_flat_map_in f (i + 1) xs k x a there later)

-- what lists joined by place contain, the list at a place contains
pub contained_in_flat_map_in : {X A : Type 0} (f : ℕ → X → List A) (i : ℕ) (xs : List X) (a : A) → Contains (flat_map_in f i xs) a
    → (k : ℕ) × (x : X) × (slice_get xs k ≡ Some x) × Contains (f (i + k) x) a
contained_in_flat_map_in f i [] a there = absurd (contains_none a there)
contained_in_flat_map_in {X} {A} f i (x ∷ xs) a there =
    elim (Contains-append_cases (f i x) (flat_map_in f (i + 1) xs) a there) [
      | inl here ↦ (zero, x, refl, rw add-zero here)
      | inr later ↦
          let found : (k : ℕ) × (x : X) × (slice_get xs k ≡ Some x) × Contains (f ((i + 1) + k) x) a = contained_in_flat_map_in f (i + 1) xs a later in
          let same : (i + 1) + found.0 ≡ i + suc found.0 = omega arith in
          (suc found.0, found.1, found.2, rw (← same) found.3)
    ]

-- what a map with places from 0 contains, it gives at a place
pub contained_in_map_in_0 : {X A : Type 0} (f : ℕ → X → A) (xs : List X) (a : A) → Contains (map_in f 0 xs) a
    → (k : ℕ) × (x : X) × (slice_get xs k ≡ Some x) × (f k x ≡ a)
contained_in_map_in_0 {X} {A} f xs a there =
    let found : (k : ℕ) × (x : X) × (slice_get xs k ≡ Some x) × (f (0 + k) x ≡ a) = contained_in_map_in f 0 xs a there in
    (found.0, found.1, found.2, rw (← zero-add found.0) found.3)

-- what lists joined by place from 0 contain, the list at a place contains
pub contained_in_flat_map_in_0 : {X A : Type 0} (f : ℕ → X → List A) (xs : List X) (a : A) → Contains (flat_map_in f 0 xs) a
    → (k : ℕ) × (x : X) × (slice_get xs k ≡ Some x) × Contains (f k x) a
contained_in_flat_map_in_0 {X} {A} f xs a there =
    let found : (k : ℕ) × (x : X) × (slice_get xs k ≡ Some x) × Contains (f (0 + k) x) a = contained_in_flat_map_in f 0 xs a there in
    (found.0, found.1, found.2, rw (← zero-add found.0) found.3)

-- a test that holds of all items holds of each that is contained
pub list_all_contained : {X : Type 0} (p : X → Bool) (xs : List X) (x : X) → list_all p xs ≡ true → Contains xs x → p x ≡ true
list_all_contained p xs x all there = All-contains (λ x. p x ≡ true) xs x (AllPass-from_list_all p xs all) there

-- a test that holds of each item that is contained holds of all
pub list_all_from_contained : {X : Type 0} (p : X → Bool) (xs : List X) → ((x : X) → Contains xs x → p x ≡ true) → list_all p xs ≡ true
list_all_from_contained p xs each =
    list_all-from_AllPass p xs (All-weaker (Contains xs) (λ x. p x ≡ true) each xs (All-contains_itself xs))

-- lists joined by place, over two lists, one behind the other
pub flat_map_in_append : {X A : Type 0} (f : ℕ → X → List A) (i : ℕ) (xs ys : List X) → flat_map_in f i (xs ++ ys) ≡ flat_map_in f i xs ++ flat_map_in f (i + length xs) ys
flat_map_in_append f i [] ys = rw add-zero refl
flat_map_in_append f i (x ∷ xs) ys =
    let same : (i + 1) + length xs ≡ i + suc (length xs) = omega arith in
    rw (flat_map_in_append f (i + 1) xs ys, same) (sym (append_assoc (f i x) (flat_map_in f (i + 1) xs) (flat_map_in f (i + suc (length xs)) ys)))

-- lists joined by place, with one list more
pub flat_map_in_more : {X A : Type 0} (f : ℕ → X → List A) (xs : List X) (i : ℕ) (d : X) → i < length xs
    → flat_map_in f 0 (take (i + 1) xs) ≡ flat_map_in f 0 (take i xs) ++ f i (get_or xs i d)
flat_map_in_more f xs i d within =
    let passed : length (take i xs) ≡ i = length-take-le i xs (omega arith) in
    rw (take_more xs i d within, flat_map_in_append f 0 (take i xs) (get_or xs i d ∷ []), passed, zero-add, append-nil (f i (get_or xs i d))) refl

-- a test of each item and its place, at the first of those that are left
pub all_in_next : {X : Type 0} (f : ℕ → X → Bool) (xs : List X) (i : ℕ) (x : X) → i < length xs → x ≡ get_or xs i x
    → all_in f i (drop i xs) ≡ (f i x && all_in f (i + 1) (drop (i + 1) xs))
all_in_next f xs i x within is = rw (drop-cons xs i x within, ← is, add-one) refl

-- a test that holds of all items and their places holds at each place
pub all_in_at : {X : Type 0} (f : ℕ → X → Bool) (i : ℕ) (xs : List X) (k : ℕ) (x : X) → all_in f i xs ≡ true → slice_get xs k ≡ Some x → f (i + k) x ≡ true
all_in_at f i [] k x all there = cc
all_in_at f i (y ∷ xs) zero x all there =
    let same : y ≡ x = cc in
    rw (add-zero, ← same) (and_parts (f i y) (all_in f (i + 1) xs) all).0
all_in_at f i (y ∷ xs) (suc k) x all there =
    let same : (i + 1) + k ≡ i + suc k = omega arith in
    rw (← same) (all_in_at f (i + 1) xs k x (and_parts (f i y) (all_in f (i + 1) xs) all).1 there)

-- a test that holds at each place holds of all items and their places
pub all_in_from_each : {X : Type 0} (f : ℕ → X → Bool) (i : ℕ) (xs : List X) → ((k : ℕ) (x : X) → slice_get xs k ≡ Some x → f (i + k) x ≡ true) → all_in f i xs ≡ true
all_in_from_each f i [] each = refl
all_in_from_each f i (x ∷ xs) each =
    let here : f i x ≡ true = rw add-zero at (each zero x refl) in
    let later : all_in f (i + 1) xs ≡ true =
    all_in_from_each f (i + 1) xs (λ k y there.
    let same : (i + 1) + k ≡ i + suc k = omega arith in
    rw same (each (suc k) y there)) in
    rw (here, later) refl

-- a test that holds at each place holds of all items
pub list_all_from_each : {X : Type 0} (p : X → Bool) (xs : List X) → ((k : ℕ) (x : X) → slice_get xs k ≡ Some x → p x ≡ true) → list_all p xs ≡ true
list_all_from_each p [] each = refl
list_all_from_each p (x ∷ xs) each = rw (each zero x refl) (list_all_from_each p xs (λ k y there. each (suc k) y there))

-- two tests that agree on the items of a list
pub filter_same : {X : Type 0} (p q : X → Bool) (xs : List X) → ((x : X) → Contains xs x → p x ≡ q x) → filter p xs ≡ filter q xs
filter_same p q [] same = refl
filter_same p q (x ∷ xs) same =
    rw (same x (contains_here x xs), filter_same p q xs (λ y there. same y (contains_later x xs y there))) refl
