-- Readings of lists, one item after the other, where each item gives something.
use Rattle.std.proofs.Common.{◌≡◌, ℕ, zero, suc, ◌<◌, Bool, true, List, [], ◌∷◌, ◌++◌, Option, Some, None, option_and_then, option_map, length, map, drop, get_or, refl, ap, subst, arith}
use Rattle.std.specs.List.{All, list_all}
use Rattle.std.proofs.lemmas.Bool.{and_parts}
use Rattle.std.proofs.lemmas.List.Elements.{All-nil, All-cons, All-head, All-tail}
use Rattle.serde_json.specs.Data.{Data}
use Rattle.serde_json.specs.View.{view}
use Rattle.serde_json.specs.declared.value.Value.{Value}
use Rattle.rw_doc.specs.Chain.{all_some}

-- all that is read is what was read of the items before place i, with what is read of the others
abbrev pub SomeSo : {A : Type 0} → (Data → Option A) → List Value → ℕ → List A → Type 0
SomeSo f values i found = all_some f (map view values) ≡ option_map (λ rest. found ++ rest) (all_some f (map view (drop i values)))

-- the item behind those that gave something gives something
pub some_more : {X A : Type 0} (f : X → Option A) (xs : List X) (x : X) (ys : List A) (y : A)
    → all_some f xs ≡ Some ys → f x ≡ Some y → all_some f (xs ++ x ∷ []) ≡ Some (ys ++ y ∷ [])
some_more f [] x ys y so is = let none : [] ≡ ys = cc in rw (is, ← none) refl
some_more f (w ∷ xs) x ys y so is = first (f w) (all_some f xs) ys so (λ rest later. some_more f xs x rest y later is)
  where
    first : (front : Option _) (later : Option (List _)) (ys : List _) → option_and_then (λ z. option_map (λ zs. z ∷ zs) later) front ≡ Some ys
        → ((rest : List _) → later ≡ Some rest → all_some f (xs ++ x ∷ []) ≡ Some (rest ++ y ∷ []))
        → option_and_then (λ z. option_map (λ zs. z ∷ zs) (all_some f (xs ++ x ∷ []))) front ≡ Some (ys ++ y ∷ [])
    first None later ys so more = let never : ⊥ = cc in absurd never
    first (Some z) None ys so more = let never : ⊥ = cc in absurd never
    first (Some z) (Some rest) ys so more = let same : z ∷ rest ≡ ys = cc in rw (more rest refl, ← same) refl

-- an item that gives nothing: nothing is read of the whole
pub none_at : {X A : Type 0} (f : X → Option A) (xs : List X) (i : ℕ) (x : X) → i < length xs → x ≡ get_or xs i x → f x ≡ None → all_some f xs ≡ None
none_at f [] i x within is none = let never : ⊥ = omega arith in absurd never
none_at f (y ∷ xs) zero x within is none = let same : x ≡ y = is in rw (← same, none) refl
none_at f (y ∷ xs) (suc i) x within is none =
    let later : all_some f xs ≡ None = none_at f xs i x (omega arith) is none in
    rw later (elim (f y) as (λ front. option_and_then (λ z. option_map (λ zs. z ∷ zs) None) front ≡ None) [ None ↦ refl | Some z ↦ refl ])

-- where the whole is read, the first item gives something, and so do the others
split_some : {A : Type 0} (front : Option A) (later : Option (List A)) (ys : List A) → option_and_then (λ z. option_map (λ zs. z ∷ zs) later) front ≡ Some ys
    → (z : A) × (zs : List A) × (front ≡ Some z) × (later ≡ Some zs) × (z ∷ zs ≡ ys)
split_some None later ys so = cc
split_some (Some z) None ys so = cc
split_some (Some z) (Some zs) ys so = (z, zs, refl, refl, cc)

-- as much is read as there are items
pub some_long : {X A : Type 0} (f : X → Option A) (xs : List X) (ys : List A) → all_some f xs ≡ Some ys → length ys ≡ length xs
some_long f [] ys so = let none : [] ≡ ys = cc in subst (λ list. length list ≡ 0) none refl
some_long f (x ∷ xs) ys so =
    let parts = split_some (f x) (all_some f xs) ys so in
    subst (λ list. length list ≡ suc (length xs)) parts.4 (ap suc (some_long f xs parts.1 parts.3))

-- what holds of what each item gives, where a test passes of the item, holds of all
pub some_all : {X A : Type 0} (P : A → Type 0) (f : X → Option A) (Q : X → Type 0) → ((x : X) (y : A) → Q x → f x ≡ Some y → P y)
    → (xs : List X) (ys : List A) → All Q xs → all_some f xs ≡ Some ys → All P ys
some_all P f Q holds [] ys given so = let none : [] ≡ ys = cc in subst (λ list. All P list) none (All-nil P)
some_all P f Q holds (x ∷ xs) ys given so =
    let parts = split_some (f x) (all_some f xs) ys so in
    subst (λ list. All P list) parts.4
    (All-cons P parts.0 parts.1 (holds x parts.0 (All-head Q x xs given) parts.2) (some_all P f Q holds xs parts.1 (All-tail Q x xs given) parts.3))

-- a test that passes of what each item gives, where another passes of the item, passes of all
pub some_pass : {X A : Type 0} (p : A → Bool) (f : X → Option A) (q : X → Bool) → ((x : X) (y : A) → q x ≡ true → f x ≡ Some y → p y ≡ true)
    → (xs : List X) (ys : List A) → list_all q xs ≡ true → all_some f xs ≡ Some ys → list_all p ys ≡ true
some_pass p f q holds [] ys given so = let none : [] ≡ ys = cc in subst (λ list. list_all p list ≡ true) none refl
some_pass p f q holds (x ∷ xs) ys given so =
    let parts = split_some (f x) (all_some f xs) ys so in
    let both = and_parts (q x) (list_all q xs) given in
    subst (λ list. list_all p list ≡ true) parts.4
    (rw (holds x parts.0 both.0 parts.2) (some_pass p f q holds xs parts.1 both.1 parts.3))
