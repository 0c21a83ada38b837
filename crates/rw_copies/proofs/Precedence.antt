-- What stands before what in a list.
use Rattle.std.proofs.Common.{◌≡◌, ◌≢◌, ◌∙◌, ◌⊎◌, ◌<◌, ℕ, zero, suc, inl, inr, Bool, true, List, [], ◌∷◌, ◌++◌, Contains, filter, map, length, slice_index, refl, sym, ap, subst, arith}
use Rattle.std.specs.List.{flat_map}
use Rattle.std.proofs.lemmas.Bool.{cases_Bool, cases_eq, eq-eqb, ne_eqb}
use Rattle.std.proofs.lemmas.List.Elements.{Contains-append_cases}
use Rattle.rw_schema.specs.RowLists.{list_at}
use Rattle.rw_spec.specs.Instance.{look}
use Rattle.rw_spec.specs.Ascending.{ascends}
use Rattle.rw_spec.proofs.Ascending.{ascends_rest, first_below}
use Rattle.rw_spec.proofs.Look.{contains_cases, look_contains}
use Rattle.rw_spec.proofs.Sequences.{contains_here, contains_later, contains_none, contained_in_filter, contained_in_map, contained_in_flat_map}
use Rattle.rw_spec.specs.Tuples.{tuples}

-- a stands in the list, and b after it
abbrev pub Precedes : {X : Type 0} → List X → X → X → Type 0
Precedes [] a b = ⊥
Precedes (x ∷ xs) a b = ((x ≡ a) × Contains xs b) ⊎ Precedes xs a b

-- of ascending numbers the first of two is less
pub precedes_less : (xs : List ℕ) → ascends xs ≡ true → (a b : ℕ) → Precedes xs a b → a < b
precedes_less [] up a b never = absurd never
precedes_less (x ∷ xs) up a b (inl here) = subst (λ (n : ℕ). n < b) here.0 (first_below x xs b up here.1)
precedes_less (x ∷ xs) up a b (inr later) = precedes_less xs (ascends_rest x xs up) a b later

-- the second of two stands in the list
pub second_there : {X : Type 0} (xs : List X) (a b : X) → Precedes xs a b → Contains xs b
second_there [] a b never = absurd never
second_there (x ∷ xs) a b (inl here) = contains_later x xs b here.1
second_there (x ∷ xs) a b (inr later) = contains_later x xs b (second_there xs a b later)

-- the first of two stands in the list
pub first_there : {X : Type 0} (xs : List X) (a b : X) → Precedes xs a b → Contains xs a
first_there [] a b never = absurd never
first_there {X} (x ∷ xs) a b (inl here) = subst (λ (y : X). Contains (x ∷ xs) y) here.0 (contains_here x xs)
first_there (x ∷ xs) a b (inr later) = contains_later x xs a (first_there xs a b later)

-- what precedes what in two lists, one behind the other
pub precedes_append : {X : Type 0} (xs ys : List X) (a b : X) → Precedes (xs ++ ys) a b → Precedes xs a b ⊎ ((Contains xs a × Contains ys b) ⊎ Precedes ys a b)
precedes_append [] ys a b precedes = inr (inr precedes)
precedes_append {X} (x ∷ xs) ys a b (inl here) =
    elim (Contains-append_cases xs ys b here.1) [
      | inl inside ↦ inl (inl (here.0, inside))
      | inr after ↦ inr (inl (subst (λ (y : X). Contains (x ∷ xs) y) here.0 (contains_here x xs), after))
    ]
precedes_append (x ∷ xs) ys a b (inr later) =
    elim (precedes_append xs ys a b later) [
      | inl inside ↦ inl (inr inside)
      | inr (inl across) ↦ inr (inl (contains_later x xs a across.0, across.1))
      | inr (inr after) ↦ inr (inr after)
    ]

-- what passes stands in the order of all
pub precedes_filter : {X : Type 0} (p : X → Bool) (xs : List X) (a b : X) → Precedes (filter p xs) a b → Precedes xs a b
precedes_filter p [] a b never = absurd never
precedes_filter {X} p (x ∷ xs) a b precedes =
    elim (cases_Bool (p x)) [
      | inl passes ↦
          let split : ((x ≡ a) × Contains (filter p xs) b) ⊎ Precedes (filter p xs) a b = rw passes at precedes in
          elim split [ inl here ↦ inl (here.0, (contained_in_filter p xs b here.1).0) | inr later ↦ inr (precedes_filter p xs a b later) ]
      | inr fails ↦
          let rest : Precedes (filter p xs) a b = rw fails at precedes in
          inr (precedes_filter p xs a b rest)
    ]

-- images stand in the order of items
pub precedes_map : {X Y : Type 0} (f : X → Y) (xs : List X) (a b : Y) → Precedes (map f xs) a b → (x : X) × (y : X) × (f x ≡ a) × (f y ≡ b) × Precedes xs x y
precedes_map f [] a b never = absurd never
precedes_map f (x ∷ xs) a b (inl here) = let found = contained_in_map f xs b here.1 in (x, found.0, here.0, found.2, inl (refl, found.1))
precedes_map f (x ∷ xs) a b (inr later) = let found = precedes_map f xs a b later in (found.0, found.1, found.2, found.3, inr found.4)

-- in lists joined end to end: both in one list, or in the lists of two names of which one comes first
pub precedes_flat_map : {Y : Type 0} (f : ℕ → List Y) (h : Y → ℕ) (names : List ℕ) → ((x : ℕ) (y : Y) → Contains (f x) y → h y ≡ x) → (a b : Y) → Precedes (flat_map f names) a b
    → ((h a ≡ h b) × Precedes (f (h a)) a b) ⊎ Precedes names (h a) (h b)
precedes_flat_map f h [] tells a b never = absurd never
precedes_flat_map {Y} f h (name ∷ names) tells a b precedes =
    elim (precedes_append (f name) (flat_map f names) a b precedes) [
      | inl inside ↦
          let first : h a ≡ name = tells name a (first_there (f name) a b inside) in
          let second : h b ≡ name = tells name b (second_there (f name) a b inside) in
          inl (first ∙ sym second, subst (λ (n : ℕ). Precedes (f n) a b) (sym first) inside)
      | inr (inl across) ↦
          let first : h a ≡ name = tells name a across.0 in
          let found = contained_in_flat_map f names b across.1 in
          let second : h b ≡ found.0 = tells found.0 b found.2 in
          inr (inl (sym first, subst (λ (n : ℕ). Contains names n) (sym second) found.1))
      | inr (inr after) ↦
          elim (precedes_flat_map f h names tells a b after) [ inl same ↦ inl same | inr order ↦ inr (inr order) ]
    ]

-- the names of each list ascend
abbrev pub AllAscending : List (List ℕ) → Type 0
AllAscending [] = Unit {0}
AllAscending (names ∷ more) = (ascends names ≡ true) × AllAscending more

-- tuples are in lexicographic order: at the first place where two differ, the one that comes first has the item that comes first
pub precedes_tuples : (lists : List (List ℕ)) → AllAscending lists → (row other : List ℕ) → Precedes (tuples lists) row other → (n : ℕ) → n < length lists
    → ((m : ℕ) → m < n → slice_index row m ≡ slice_index other m) → slice_index row n ≢ slice_index other n → Precedes (list_at lists n) (slice_index row n) (slice_index other n)
precedes_tuples [] all row other precedes n within before differ = absurd (omega arith)
precedes_tuples (names ∷ more) all row other precedes n within before differ =
    elim (precedes_flat_map (λ name. map (λ (rest : List ℕ). name ∷ rest) (tuples more)) (λ (tuple : List ℕ). slice_index tuple 0) names
    (λ name tuple there. let found = contained_in_map (λ (rest : List ℕ). name ∷ rest) (tuples more) tuple there in ap (λ (t : List ℕ). slice_index t 0) (sym found.2)) row other precedes) [
      | inl same ↦
          let found = precedes_map (λ (rest : List ℕ). slice_index row 0 ∷ rest) (tuples more) row other same.1 in
          behind n within before differ found.0 found.1 found.2 found.3
          (λ m less rest_before rest_differ. precedes_tuples more all.1 found.0 found.1 found.4 m less rest_before rest_differ)
      | inr order ↦ front n before differ order
    ]
  where
    behind : (n : ℕ) → n < suc (length more) → ((m : ℕ) → m < n → slice_index row m ≡ slice_index other m) → slice_index row n ≢ slice_index other n
        → (rest others : List ℕ) → (slice_index row 0 ∷ rest) ≡ row → (slice_index row 0 ∷ others) ≡ other
        → ((m : ℕ) → m < length more → ((l : ℕ) → l < m → slice_index rest l ≡ slice_index others l) → slice_index rest m ≢ slice_index others m → Precedes (list_at more m) (slice_index rest m) (slice_index others m))
        → Precedes (list_at (names ∷ more) n) (slice_index row n) (slice_index other n)
    behind zero within before differ rest others first second later =
        absurd (differ (ap (λ (t : List ℕ). slice_index t 0) (sym first) ∙ ap (λ (t : List ℕ). slice_index t 0) second))
    behind (suc n) within before differ rest others first second later =
        let row_at : (m : ℕ) → slice_index rest m ≡ slice_index row (suc m) = λ m. ap (λ (t : List ℕ). slice_index t (suc m)) first in
        let other_at : (m : ℕ) → slice_index others m ≡ slice_index other (suc m) = λ m. ap (λ (t : List ℕ). slice_index t (suc m)) second in
        subst (λ (y : ℕ). Precedes (list_at more n) (slice_index row (suc n)) y) (other_at n)
        (subst (λ (x : ℕ). Precedes (list_at more n) x (slice_index others n)) (row_at n)
        (later n (omega arith) (λ l less. row_at l ∙ before (suc l) (omega arith) ∙ sym (other_at l)) (λ same. differ (sym (row_at n) ∙ same ∙ other_at n))))

    front : (n : ℕ) → ((m : ℕ) → m < n → slice_index row m ≡ slice_index other m) → slice_index row n ≢ slice_index other n
        → Precedes names (slice_index row 0) (slice_index other 0) → Precedes (list_at (names ∷ more) n) (slice_index row n) (slice_index other n)
    front zero before differ order = order
    front (suc n) before differ order =
        let less = precedes_less names all.0 (slice_index row 0) (slice_index other 0) order in
        let same = before 0 (omega arith) in
        absurd (omega arith)

-- beside names that ascend, what stands beside the lesser name comes first
pub parallel : {A : Type 0} (none : A) (names : List ℕ) (entries : List A) → ascends names ≡ true → length entries ≡ length names → (v w : ℕ) → Contains names v → Contains names w → v < w
    → Precedes entries (look none names entries v) (look none names entries w)
parallel none [] entries ascending beside v w v_there w_there less = absurd (contains_none v v_there)
parallel none (name ∷ names) [] ascending beside v w v_there w_there less = absurd (omega arith)
parallel {A} none (name ∷ names) (entry ∷ entries) ascending beside v w v_there w_there less =
    elim (cases_eq name v) [
      | inl first ↦
          let w_later : Contains names w = elim (contains_cases name names w w_there) [ inl same ↦ absurd (omega arith) | inr later ↦ later ] in
          rw (eq-eqb name v first, ne_eqb name w (λ same. omega arith)) (inl (refl, look_contains none names entries w (omega arith) w_later))
      | inr other ↦
          let v_later : Contains names v = elim (contains_cases name names v v_there) [ inl same ↦ absurd (other same) | inr later ↦ later ] in
          let above : name < v = first_below name names v ascending v_later in
          let w_later : Contains names w = elim (contains_cases name names w w_there) [ inl same ↦ absurd (omega arith) | inr later ↦ later ] in
          rw (ne_eqb name v other, ne_eqb name w (λ same. omega arith)) (inr (parallel none names entries (ascends_rest name names ascending) (omega arith) v w v_later w_later less))
    ]
