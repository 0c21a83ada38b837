-- Where a test of all fails, it fails somewhere; and what holds somewhere of items holds somewhere of what they give.
use Rattle.std.proofs.Common.{◌≡◌, ◌<◌, ◌⊎◌, inl, inr, ℕ, zero, suc, Bool, true, false, ◌&&◌, Option, Some, None, option_and_then, option_map, IsSomeAnd, List, [], ◌∷◌, length, slice_index_or, refl, sym, subst, arith, ◌∙◌}
use Rattle.std.specs.List.{Any, list_all}
use Rattle.rw_doc.specs.Chain.{all_some}

-- it holds of the first
pub any_here : {X : Type 0} (P : X → Type 0) (x : X) (xs : List X) → P x → Any P (x ∷ xs)
any_here P x xs holds = (0, x, omega arith, refl, holds)

-- it holds of a later one
pub any_later : {X : Type 0} (P : X → Type 0) (x : X) (xs : List X) → Any P xs → Any P (x ∷ xs)
any_later P x xs any = (suc any.0, any.1, omega (arith, any.2), any.3, any.4)

-- the one at a place is the first, or a later one
any_at : {X : Type 0} (P : X → Type 0) (x : X) (xs : List X) (k : ℕ) (y : X) → k < length (x ∷ xs) → slice_index_or (x ∷ xs) k y ≡ y → P y → P x ⊎ Any P xs
any_at P x xs zero y within is holds = inl (subst P (sym is) holds)
any_at P x xs (suc k) y within is holds = inr (k, y, omega arith, is, holds)

-- it holds of the first, or of a later one
pub any_of : {X : Type 0} (P : X → Type 0) (x : X) (xs : List X) → Any P (x ∷ xs) → P x ⊎ Any P xs
any_of P x xs any = any_at P x xs any.0 any.1 any.2 any.3 any.4

-- it holds of none of none
pub any_none : {X : Type 0} (P : X → Type 0) → Any P [] → ⊥
any_none P any = let within : any.0 < 0 = any.2 in omega arith

-- the first fails, or a later one does
fails_cons : {X : Type 0} (test : X → Bool) (x : X) (xs : List X) (passes : Bool) → test x ≡ passes → (passes && list_all test xs) ≡ false
    → (list_all test xs ≡ false → Any (λ x. test x ≡ false) xs) → Any (λ x. test x ≡ false) (x ∷ xs)
fails_cons test x xs true is fails later = any_later (λ x. test x ≡ false) x xs (later fails)
fails_cons test x xs false is fails later = any_here (λ x. test x ≡ false) x xs is

-- where not all pass a test, one fails it
pub any_fails : {X : Type 0} (test : X → Bool) (xs : List X) → list_all test xs ≡ false → Any (λ x. test x ≡ false) xs
any_fails test [] fails = cc
any_fails test (x ∷ xs) fails = fails_cons test x xs (test x) refl fails (any_fails test xs)

-- a test that one fails is not passed by both
both_pass : (first later : Bool) → (first && later) ≡ true → (first ≡ true) × (later ≡ true)
both_pass true later passes = (refl, passes)
both_pass false later passes = cc

-- where all pass a test, none fails it
pub none_fails : {X : Type 0} (test : X → Bool) (xs : List X) → list_all test xs ≡ true → Any (λ x. test x ≡ false) xs → ⊥
none_fails test [] passes any = any_none (λ x. test x ≡ false) any
none_fails test (x ∷ xs) passes any =
    let parts = both_pass (test x) (list_all test xs) passes in
    elim (any_of (λ x. test x ≡ false) x xs any) [ inl here ↦ (let never : true ≡ false = sym parts.0 ∙ here in cc) | inr later ↦ none_fails test xs parts.1 later ]

-- something is given of the first and of all later ones
record AreGiven {X Y : Type 0} (f : X → Option Y) (x : X) (xs : List X) (ys : List Y) : Type 0 where
  first : Y
  rest : List Y
  is_first : f x ≡ Some first
  are_rest : all_some f xs ≡ Some rest
  same : first ∷ rest ≡ ys

-- so it is where something is given of all
given_parts : {X Y : Type 0} (f : X → Option Y) (x : X) (xs : List X) (ys : List Y) (here : Option Y) (later : Option (List Y)) → f x ≡ here → all_some f xs ≡ later
    → option_and_then (λ y. option_map (λ ys. y ∷ ys) later) here ≡ Some ys → AreGiven f x xs ys
given_parts f x xs ys None later is_here is_later given = cc
given_parts f x xs ys (Some y) None is_here is_later given = cc
given_parts f x xs ys (Some y) (Some rest) is_here is_later given = let same : y ∷ rest ≡ ys = cc in record {
  first = y;
  rest = rest;
  is_first = is_here;
  are_rest = is_later;
  same = same;
}

-- what holds of one that is given holds of what it is given of
pub any_source : {X Y : Type 0} (f : X → Option Y) (P : X → Type 0) (Q : Y → Type 0) (xs : List X) (ys : List Y) → ((x : X) (y : Y) → f x ≡ Some y → Q y → P x)
    → all_some f xs ≡ Some ys → Any Q ys → Any P xs
any_source f P Q [] ys so given any = let none : [] ≡ ys = cc in absurd (any_none Q (subst (λ list. Any Q list) (sym none) any))
any_source f P Q (x ∷ xs) ys so given any =
    let parts = given_parts f x xs ys (f x) (all_some f xs) refl refl given in
    elim (any_of Q parts.first parts.rest (subst (λ list. Any Q list) (sym parts.same) any)) [
      | inl here ↦ any_here P x xs (so x parts.first parts.is_first here)
      | inr later ↦ any_later P x xs (any_source f P Q xs parts.rest so parts.are_rest later)
    ]

-- what holds of one holds of what is given of it
pub any_given : {X Y : Type 0} (f : X → Option Y) (P : X → Type 0) (Q : Y → Type 0) (xs : List X) (ys : List Y) → ((x : X) (y : Y) → f x ≡ Some y → P x → Q y)
    → all_some f xs ≡ Some ys → Any P xs → Any Q ys
any_given f P Q [] ys so given any = absurd (any_none P any)
any_given f P Q (x ∷ xs) ys so given any =
    let parts = given_parts f x xs ys (f x) (all_some f xs) refl refl given in
    subst (λ list. Any Q list) parts.same (elim (any_of P x xs any) [
      | inl here ↦ any_here Q parts.first parts.rest (so x parts.first parts.is_first here)
      | inr later ↦ any_later Q parts.first parts.rest (any_given f P Q xs parts.rest so parts.are_rest later)
    ])

-- what holds of something that is given
pub some_and : {Y : Type 0} (P : Y → Type 0) (found : Option Y) (y : Y) → found ≡ Some y → P y → IsSomeAnd found P
some_and P None y is holds = cc
some_and P (Some z) y is holds = let same : z ≡ y = cc in subst P (sym same) holds

-- what holds of the one that is given
pub and_some : {Y : Type 0} (P : Y → Type 0) (found : Option Y) (y : Y) → found ≡ Some y → IsSomeAnd found P → P y
and_some P None y is holds = absurd holds
and_some P (Some z) y is holds = let same : z ≡ y = cc in subst P same holds

-- what holds of one that is given holds of what it is given of, with it
pub any_with : {X Y : Type 0} (f : X → Option Y) (Q : Y → Type 0) (xs : List X) (ys : List Y) → all_some f xs ≡ Some ys → Any Q ys → Any (λ x. IsSomeAnd (f x) Q) xs
any_with f Q xs ys = any_source f (λ x. IsSomeAnd (f x) Q) Q xs ys (λ x y is. some_and Q (f x) y is)

-- what holds of one with what is given of it holds of what is given
pub any_without : {X Y : Type 0} (f : X → Option Y) (Q : Y → Type 0) (xs : List X) (ys : List Y) → all_some f xs ≡ Some ys → Any (λ x. IsSomeAnd (f x) Q) xs → Any Q ys
any_without f Q xs ys = any_given f (λ x. IsSomeAnd (f x) Q) Q xs ys (λ x y is. and_some Q (f x) y is)

-- what holds of one that is P holds of one that is Q
pub any_so : {X : Type 0} (P Q : X → Type 0) (xs : List X) → ((x : X) → P x → Q x) → Any P xs → Any Q xs
any_so P Q xs so any = (any.0, any.1, any.2, any.3, so any.1 any.4)

-- nothing is given of the first, or of a later one
missing_cons : {X Y : Type 0} (f : X → Option Y) (x : X) (xs : List X) (here : Option Y) (later : Option (List Y)) → f x ≡ here → all_some f xs ≡ later
    → option_and_then (λ y. option_map (λ ys. y ∷ ys) later) here ≡ None → (all_some f xs ≡ None → Any (λ x. f x ≡ None) xs) → Any (λ x. f x ≡ None) (x ∷ xs)
missing_cons f x xs None later is_here is_later missing rest = any_here (λ x. f x ≡ None) x xs is_here
missing_cons f x xs (Some y) None is_here is_later missing rest = any_later (λ x. f x ≡ None) x xs (rest is_later)
missing_cons f x xs (Some y) (Some ys) is_here is_later missing rest = cc

-- where something is not given of all, nothing is given of one
pub any_missing : {X Y : Type 0} (f : X → Option Y) (xs : List X) → all_some f xs ≡ None → Any (λ x. f x ≡ None) xs
any_missing f [] missing = cc
any_missing f (x ∷ xs) missing = missing_cons f x xs (f x) (all_some f xs) refl refl missing (any_missing f xs)

-- where something is given of all, it is not missing of one
pub none_missing : {X Y : Type 0} (f : X → Option Y) (xs : List X) (ys : List Y) → all_some f xs ≡ Some ys → Any (λ x. f x ≡ None) xs → ⊥
none_missing f [] ys given any = any_none (λ x. f x ≡ None) any
none_missing f (x ∷ xs) ys given any =
    let parts = given_parts f x xs ys (f x) (all_some f xs) refl refl given in
    elim (any_of (λ x. f x ≡ None) x xs any) [ inl here ↦ (let never : Some parts.first ≡ None = sym parts.is_first ∙ here in cc) | inr later ↦ none_missing f xs parts.rest parts.are_rest later ]
