-- Lists of lists, maps with places, and tests behind a map.
use Rattle.std.proofs.Common.{◌≡◌, ℕ, zero, suc, ◌+◌, ◌<◌, Bool, true, ◌&&◌, ◌||◌, cond, not, Some, List, [], ◌∷◌, ◌++◌, map, length, get_or, position, slice_get, slice_set, refl, ap, ◌∙◌, add-zero, arith, ◌≢◌, get_or-set_other, get_or-set_same, ◌≤◌, take, le_of_lt, zero-add}
use Rattle.std.specs.Cmp.Lexicographic.{pointwise}
use Rattle.std.specs.List.{list_any, list_all, position_or_len}
use Rattle.std.proofs.lemmas.List.{length-map, length-take-le, get_or-map, get_or_past, take_more}
use Rattle.std.proofs.lemmas.Option.{slice_get-get_or}
use Rattle.std.proofs.lemmas.Bool.{and_parts}
use Rattle.rw_schema.specs.First.{map_in}
use Rattle.rw_schema.specs.RowLists.{list_at}

-- a test passes behind a map
pub list_any_map : {X Y : Type 0} (p : X → Bool) (h : Y → X) (ys : List Y) → list_any p (map h ys) ≡ list_any (λ y. p (h y)) ys
list_any_map p h [] = refl
list_any_map p h (y ∷ ys) = ap (λ b. p (h y) || b) (list_any_map p h ys)

-- how many items stand before the first that passes a test behind a map
pub position_or_len_map : {X Y : Type 0} (p : X → Bool) (h : Y → X) (ys : List Y) → position_or_len p (map h ys) ≡ position_or_len (λ y. p (h y)) ys
position_or_len_map p h [] = refl
position_or_len_map p h (y ∷ ys) = ap (λ n. cond (not (p (h y))) (1 + n) 0) (position_or_len_map p h ys)

-- the place of the first item that passes a test behind a map
pub position_map : {X Y : Type 0} (p : X → Bool) (h : Y → X) (ys : List Y) → position p (map h ys) ≡ position (λ y. p (h y)) ys
position_map p h ys = rw (position_or_len_map p h ys, length-map ys h) refl

-- an item of a list that passes a test at each place
pub list_all_at : {X : Type 0} (p : X → Bool) (xs : List X) (k : ℕ) (x : X) → list_all p xs ≡ true → slice_get xs k ≡ Some x → p x ≡ true
list_all_at p [] k x all there = cc
list_all_at p (y ∷ xs) zero x all there =
    let same : y ≡ x = cc in
    rw (← same) (and_parts (p y) (list_all p xs) all).0
list_all_at p (y ∷ xs) (suc k) x all there = list_all_at p xs k x (and_parts (p y) (list_all p xs) all).1 there

-- what stands at a place of a mapped list comes from what stands there in the list
pub slice_get_mapped : {X Y : Type 0} (h : X → Y) (xs : List X) (k : ℕ) (y : Y) → slice_get (map h xs) k ≡ Some y
    → (x : X) × (slice_get xs k ≡ Some x) × (h x ≡ y)
slice_get_mapped h [] k y there = let no : ⊥ = cc in absurd no
slice_get_mapped h (x ∷ xs) zero y there = (x, refl, cc)
slice_get_mapped h (x ∷ xs) (suc k) y there = slice_get_mapped h xs k y there

-- a list of lists has a list at each place within
pub list_at_within : {A : Type 0} (lists : List (List A)) (i : ℕ) → i < length lists → slice_get lists i ≡ Some (list_at lists i)
list_at_within lists i within = slice_get-get_or lists i [] within

-- past the last list of a list of lists stands the empty list
pub list_at_past : {A : Type 0} (lists : List (List A)) (i : ℕ) → length lists ≤ i → list_at lists i ≡ []
list_at_past lists i past = get_or_past lists i [] past

-- the list at a place of a mapped list
pub list_at_map : {A B : Type 0} (h : A → List B) (xs : List A) (i : ℕ) (d : A) → i < length xs → list_at (map h xs) i ≡ h (get_or xs i d)
list_at_map h xs i d within = get_or-map h xs i d [] within

-- the list that was put at a place
pub list_at_set_same : {A : Type 0} (lists : List (List A)) (i : ℕ) (new : List A) → i < length lists → list_at (slice_set lists i new) i ≡ new
list_at_set_same lists i new within = get_or-set_same lists i new [] within

-- the lists at other places stay
pub list_at_set_other : {A : Type 0} (lists : List (List A)) (i j : ℕ) (new : List A) → j ≢ i → list_at (slice_set lists i new) j ≡ list_at lists j
list_at_set_other lists i j new other = get_or-set_other lists i j new [] other

-- a map with places keeps the length
pub length_map_in : {X A : Type 0} (f : ℕ → X → A) (i : ℕ) (xs : List X) → length (map_in f i xs) ≡ length xs
length_map_in f i [] = refl
length_map_in f i (x ∷ xs) = ap (λ n. suc n) (length_map_in f (i + 1) xs)

-- what a map with places gives at a place
pub get_or_map_in : {X A : Type 0} (f : ℕ → X → A) (i : ℕ) (xs : List X) (k : ℕ) (x : X) (d : A)
    → slice_get xs k ≡ Some x → get_or (map_in f i xs) k d ≡ f (i + k) x
get_or_map_in f i [] k x d there = cc
get_or_map_in f i (y ∷ xs) zero x d there =
    let same : y ≡ x = cc in
    rw (add-zero, same) refl
get_or_map_in f i (y ∷ xs) (suc k) x d there =
    let same : (i + 1) + k ≡ i + suc k = omega arith in
    rw (← same) (get_or_map_in f (i + 1) xs k x d there)

-- a map with places over two lists, one behind the other
pub map_in_append : {X A : Type 0} (f : ℕ → X → A) (i : ℕ) (xs ys : List X) → map_in f i (xs ++ ys) ≡ map_in f i xs ++ map_in f (i + length xs) ys
map_in_append f i [] ys = rw add-zero refl
map_in_append f i (x ∷ xs) ys =
    let same : (i + 1) + length xs ≡ i + suc (length xs) = omega arith in
    ap (λ rest. f i x ∷ rest) (map_in_append f (i + 1) xs ys) ∙ rw (same) refl

-- a map with places over one item more, as at a step of a loop
pub map_in_more : {X A : Type 0} (f : ℕ → X → A) (xs : List X) (i : ℕ) (x : X)
    → i < length xs → x ≡ get_or xs i x → map_in f 0 (take (i + 1) xs) ≡ map_in f 0 (take i xs) ++ f i x ∷ []
map_in_more f xs i x within is =
    let same : 0 + length (take i xs) ≡ i = rw (length-take-le i xs (le_of_lt within)) (zero-add i) in
    rw (take_more xs i x within, ← is, map_in_append f 0 (take i xs) (x ∷ []), same) refl

-- two functions that agree at each place give the same list
pub map_in_same : {X A : Type 0} (f g : ℕ → X → A) (i : ℕ) (xs : List X) → ((k : ℕ) (x : X) → f k x ≡ g k x) → map_in f i xs ≡ map_in g i xs
map_in_same f g i [] same = refl
map_in_same f g i (x ∷ xs) same = rw (same i x, map_in_same f g (i + 1) xs same) refl

-- a comparison head by head, behind a map
pub pointwise_map : {X Y : Type 0} (equals : Y → Y → Bool) (h : X → Y) (xs ys : List X)
    → pointwise (λ x y. equals (h x) (h y)) xs ys ≡ pointwise equals (map h xs) (map h ys)
pointwise_map equals h [] [] = refl
pointwise_map equals h [] (y ∷ ys) = refl
pointwise_map equals h (x ∷ xs) [] = refl
pointwise_map equals h (x ∷ xs) (y ∷ ys) = ap (λ b. equals (h x) (h y) && b) (pointwise_map equals h xs ys)
