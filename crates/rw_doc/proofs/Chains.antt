-- What holds of a value that a chain of readings gives.
use Rattle.std.proofs.Common.{◌≡◌, ℕ, zero, suc, ◌+◌, Bool, true, false, Option, Some, None, Result, Ok, Err, List, [], ◌∷◌, ◌++◌, length, map, slice_get, refl, ap, subst, add-zero, arith}
use Rattle.std.specs.List.{All, list_all}
use Rattle.std.proofs.lemmas.List.{length-append}
use Rattle.std.proofs.lemmas.List.Elements.{All-nil, All-cons}
use Rattle.rw_doc.specs.Chain.{and_then, each_in, each_after, some_or, checked}

-- what holds of each reading that may come second holds of the whole
pub chain : {A B E : Type 0} (P : B → Type 0) (first : Result A E) (second : A → Result B E)
    → ((x : A) → first ≡ Ok x → (y : B) → second x ≡ Ok y → P y) → (y : B) → and_then first second ≡ Ok y → P y
chain P (Ok x) second holds y is = holds x refl y is
chain P (Err fault) second holds y is = let never : ⊥ = cc in absurd never

-- what holds of a reading holds of one that is checked first
pub checked_then : {A E : Type 0} (P : A → Type 0) (fault : E) (test : Bool) (reading : Result A E)
    → (test ≡ true → (y : A) → reading ≡ Ok y → P y) → (y : A) → checked fault test reading ≡ Ok y → P y
checked_then P fault true reading holds y is = holds refl y is
checked_then P fault false reading holds y is = let never : ⊥ = cc in absurd never

-- what holds of each item that is read holds of all
pub each : {X A E : Type 0} (P : A → Type 0) (f : ℕ → X → Result A E) → ((i : ℕ) (x : X) (y : A) → f i x ≡ Ok y → P y)
    → (i : ℕ) (xs : List X) (ys : List A) → each_in f i xs ≡ Ok ys → All P ys
each P f holds i [] ys is = let same : [] ≡ ys = cc in subst (λ list. All P list) same (All-nil P)
each P f holds i (x ∷ xs) ys is =
    chain (λ list. All P list) (f i x) (λ y. and_then (each_in f (i + 1) xs) (λ rest. Ok (y ∷ rest)))
    (λ y here. chain (λ list. All P list) (each_in f (i + 1) xs) (λ rest. Ok (y ∷ rest))
    (λ rest later list whole. let same : y ∷ rest ≡ list = cc in
    subst (λ list. All P list) same (All-cons P y rest (holds i x y here) (each P f holds (i + 1) xs rest later)))) ys is

-- what was there
pub there : {A E : Type 0} (fault : E) (value : Option A) (x : A) → some_or fault value ≡ Ok x → value ≡ Some x
there fault None x is = let never : ⊥ = cc in absurd never
there fault (Some y) x is = let same : y ≡ x = cc in ap (λ z. Some z) same

-- a test that each item passes that is read, all pass
pub each_passes : {X A E : Type 0} (test : A → Bool) (f : ℕ → X → Result A E) → ((i : ℕ) (x : X) (y : A) → f i x ≡ Ok y → test y ≡ true)
    → (i : ℕ) (xs : List X) (ys : List A) → each_in f i xs ≡ Ok ys → list_all test ys ≡ true
each_passes test f holds i [] ys is = let same : [] ≡ ys = cc in subst (λ list. list_all test list ≡ true) same refl
each_passes test f holds i (x ∷ xs) ys is =
    chain (λ list. list_all test list ≡ true) (f i x) (λ y. and_then (each_in f (i + 1) xs) (λ rest. Ok (y ∷ rest)))
    (λ y here. chain (λ list. list_all test list ≡ true) (each_in f (i + 1) xs) (λ rest. Ok (y ∷ rest))
    (λ rest later list whole. let same : y ∷ rest ≡ list = cc in
    subst (λ list. list_all test list ≡ true) same (rw (holds i x y here) (each_passes test f holds (i + 1) xs rest later)))) ys is

-- as much is read as there are items
pub each_long : {X A E : Type 0} (f : ℕ → X → Result A E) (i : ℕ) (xs : List X) (ys : List A) → each_in f i xs ≡ Ok ys → length ys ≡ length xs
each_long f i [] ys is = let same : [] ≡ ys = cc in subst (λ list. length list ≡ 0) same refl
each_long f i (x ∷ xs) ys is =
    chain (λ list. length list ≡ suc (length xs)) (f i x) (λ y. and_then (each_in f (i + 1) xs) (λ rest. Ok (y ∷ rest)))
    (λ y here. chain (λ list. length list ≡ suc (length xs)) (each_in f (i + 1) xs) (λ rest. Ok (y ∷ rest))
    (λ rest later list whole. let same : y ∷ rest ≡ list = cc in
    subst (λ list. length list ≡ suc (length xs)) same (ap suc (each_long f (i + 1) xs rest later)))) ys is

-- what holds of nothing, and of each item more that is read behind others, holds of all that is read
pub behind : {X A E : Type 0} (P : List A → Type 0) (f : List A → X → Result A E)
    → ((before : List A) (x : X) (y : A) → P before → f before x ≡ Ok y → P (before ++ y ∷ []))
    → (before : List A) (xs : List X) (ys : List A) → P before → each_after f before xs ≡ Ok ys → P ys
behind P f more before [] ys holds is = let same : before ≡ ys = cc in subst P same holds
behind P f more before (x ∷ xs) ys holds is =
    chain P (f before x) (λ y. each_after f (before ++ y ∷ []) xs)
    (λ y here list. behind P f more (before ++ y ∷ []) xs list (more before x y holds here)) ys is

-- what is read of items behind a map
pub each_mapped : {W X A E : Type 0} (f : ℕ → X → Result A E) (h : W → X) (i : ℕ) (ws : List W)
    → each_in f i (map h ws) ≡ each_in (λ place w. f place (h w)) i ws
each_mapped f h i [] = refl
each_mapped f h i (w ∷ ws) = ap (λ reading. and_then (f i (h w)) (λ y. and_then reading (λ ys. Ok (y ∷ ys)))) (each_mapped f h (i + 1) ws)

-- as much is read behind others as there are items
pub behind_long : {X A E : Type 0} (f : List A → X → Result A E) (before : List A) (xs : List X) (ys : List A)
    → each_after f before xs ≡ Ok ys → length ys ≡ length before + length xs
behind_long f before [] ys is = let same : before ≡ ys = cc in subst (λ list. length list ≡ length before + 0) same (omega arith)
behind_long f before (x ∷ xs) ys is =
    chain (λ list. length list ≡ length before + suc (length xs)) (f before x) (λ y. each_after f (before ++ y ∷ []) xs)
    (λ y here list later. let long : length list ≡ length (before ++ y ∷ []) + length xs = behind_long f (before ++ y ∷ []) xs list later in
    omega (arith, length-append before (y ∷ []))) ys is

-- what holds at the first place and at each later one holds at each
at_front : {A : Type 0} (P : ℕ → A → Type 0) (i : ℕ) (y : A) (rest : List A) → P i y
    → ((k : ℕ) (z : A) → slice_get rest k ≡ Some z → P ((i + 1) + k) z) → (k : ℕ) (z : A) → slice_get (y ∷ rest) k ≡ Some z → P (i + k) z
at_front P i y rest here later zero z found = let same : y ≡ z = cc in rw (add-zero, ← same) here
at_front P i y rest here later (suc k) z found = let same : (i + 1) + k ≡ i + suc k = omega arith in rw (← same) (later k z found)

-- what holds of each reading at its place holds at each place of all that is read
pub each_at : {X A E : Type 0} (P : ℕ → A → Type 0) (f : ℕ → X → Result A E) → ((i : ℕ) (x : X) (y : A) → f i x ≡ Ok y → P i y)
    → (i : ℕ) (xs : List X) (ys : List A) → each_in f i xs ≡ Ok ys → (k : ℕ) (y : A) → slice_get ys k ≡ Some y → P (i + k) y
each_at P f holds i [] ys is = let same : [] ≡ ys = cc in subst (λ list. (k : ℕ) (y : _) → slice_get list k ≡ Some y → P (i + k) y) same (λ k y found. let never : ⊥ = cc in absurd never)
each_at P f holds i (x ∷ xs) ys is =
    chain (λ list. (k : ℕ) (y : _) → slice_get list k ≡ Some y → P (i + k) y) (f i x) (λ y. and_then (each_in f (i + 1) xs) (λ rest. Ok (y ∷ rest)))
    (λ y here. chain (λ list. (k : ℕ) (y : _) → slice_get list k ≡ Some y → P (i + k) y) (each_in f (i + 1) xs) (λ rest. Ok (y ∷ rest))
    (λ rest later list whole. let same : y ∷ rest ≡ list = cc in
    subst (λ list. (k : ℕ) (y : _) → slice_get list k ≡ Some y → P (i + k) y) same
    (at_front P i y rest (holds i x y here) (each_at P f holds (i + 1) xs rest later)))) ys is
