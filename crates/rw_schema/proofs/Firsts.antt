-- The first fault of several, and of a list.
use Rattle.std.proofs.Common.{◌≡◌, ℕ, zero, suc, ◌+◌, ◌<◌, ◌≤◌, Bool, true, false, Option, Some, None, List, [], ◌∷◌, length, get_or, drop, slice_get, refl, subst, add-one, add-zero, zero-add, arith, drop-cons, drop_of_length-le}
use Rattle.std.specs.List.{list_all}
use Rattle.std.proofs.lemmas.Bool.{and_parts}
use Rattle.rw_schema.specs.First.{or_else, first_in, fault_unless}

-- where no fault is first, the first is none and the second is none
pub or_else_none : {A : Type 0} (first second : Option A) → or_else first second ≡ None → (first ≡ None) × (second ≡ None)
or_else_none None second none = (refl, none)
or_else_none (Some first) second none = cc

-- a test that passed is no fault
pub unless_true : {A : Type 0} (test : Bool) (fault : A) → test ≡ true → fault_unless test fault ≡ None
unless_true true fault passed = refl
unless_true false fault passed = cc

-- a test that failed is its fault
pub unless_false : {A : Type 0} (test : Bool) (fault : A) → test ≡ false → fault_unless test fault ≡ Some fault
unless_false true fault failed = cc
unless_false false fault failed = refl

-- where there is no fault, the test passed
pub passed_unless : {A : Type 0} (test : Bool) (fault : A) → fault_unless test fault ≡ None → test ≡ true
passed_unless true fault none = refl
passed_unless false fault none = cc

-- the item at this place has a fault: it is the first of those that are left
pub first_here : {X A : Type 0} (f : ℕ → X → Option A) (i : ℕ) (xs : List X) (x : X) (fault : A)
    → i < length xs → x ≡ get_or xs i x → f i x ≡ Some fault → first_in f i (drop i xs) ≡ Some fault
first_here f i xs x fault within is here = rw (drop-cons xs i x within, ← is, here) refl

-- the item at this place has no fault: the first of those that are left comes later
pub first_next : {X A : Type 0} (f : ℕ → X → Option A) (i : ℕ) (xs : List X) (x : X)
    → i < length xs → x ≡ get_or xs i x → f i x ≡ None → first_in f i (drop i xs) ≡ first_in f (i + 1) (drop (i + 1) xs)
first_next f i xs x within is none = rw (drop-cons xs i x within, ← is, none, add-one) refl

-- past the last item there is no fault
pub first_past : {X A : Type 0} (f : ℕ → X → Option A) (i j : ℕ) (xs : List X) → length xs ≤ j → first_in f i (drop j xs) ≡ None
first_past f i j xs past = rw (drop_of_length-le xs past) refl

-- where no item has a fault, none at any place has one
pub first_none : {X A : Type 0} (f : ℕ → X → Option A) (i : ℕ) (xs : List X) → first_in f i xs ≡ None
    → (k : ℕ) (x : X) → slice_get xs k ≡ Some x → f (i + k) x ≡ None
first_none f i [] none k x there = cc
first_none f i (y ∷ xs) none zero x there =
    let here : f i y ≡ None = (or_else_none (f i y) (first_in f (i + 1) xs) none).0 in
    let same : y ≡ x = cc in
    rw (add-zero, ← same) here
first_none f i (y ∷ xs) none (suc k) x there =
    let later : first_in f (i + 1) xs ≡ None = (or_else_none (f i y) (first_in f (i + 1) xs) none).1 in
    let same : (i + 1) + k ≡ i + suc k = omega arith in
    rw (← same) (first_none f (i + 1) xs later k x there)

-- where no item fails a test, all pass it
pub all_unless : {X A : Type 0} (test : X → Bool) (fault : ℕ → A) (i : ℕ) (xs : List X)
    → first_in (λ place x. fault_unless (test x) (fault place)) i xs ≡ None → list_all test xs ≡ true
all_unless test fault i [] none = refl
all_unless test fault i (x ∷ xs) none =
    let parts = or_else_none (fault_unless (test x) (fault i)) (first_in (λ place x. fault_unless (test x) (fault place)) (i + 1) xs) none in
    rw (passed_unless (test x) (fault i) parts.0) (all_unless test fault (i + 1) xs parts.1)

-- the same fault is first where two functions agree at each item
pub first_same : {X A : Type 0} (f g : ℕ → X → Option A) (i : ℕ) (xs : List X) → ((k : ℕ) (x : X) → f k x ≡ g k x) → first_in f i xs ≡ first_in g i xs
first_same f g i [] same = refl
first_same f g i (x ∷ xs) same = rw (same i x, first_same f g (i + 1) xs same) refl

-- there is no first fault where no item has one, from place i on
pub none_from : {X A : Type 0} (f : ℕ → X → Option A) (i : ℕ) (xs : List X)
    → ((k : ℕ) (x : X) → slice_get xs k ≡ Some x → f (i + k) x ≡ None) → first_in f i xs ≡ None
none_from f i [] each = refl
none_from f i (x ∷ xs) each =
    let here : f i x ≡ None = rw add-zero at (each zero x refl) in
    let later : first_in f (i + 1) xs ≡ None =
    none_from f (i + 1) xs (λ k y there.
    let same : i + suc k ≡ (i + 1) + k = omega arith in
    rw (← same) (each (suc k) y there)) in
    rw (here, later) refl

-- there is no first fault where no item has one
pub none_from_each : {X A : Type 0} (f : ℕ → X → Option A) (xs : List X)
    → ((k : ℕ) (x : X) → slice_get xs k ≡ Some x → f k x ≡ None) → first_in f 0 xs ≡ None
none_from_each f xs each = none_from f 0 xs (λ k x there. rw (zero-add k) (each k x there))

-- where no item has a fault, the one at a place has none
pub none_at : {X A : Type 0} (f : ℕ → X → Option A) (xs : List X) (k : ℕ) (x : X) → first_in f 0 xs ≡ None → slice_get xs k ≡ Some x → f k x ≡ None
none_at f xs k x none there = subst (λ (place : ℕ). f place x ≡ None) (zero-add k) (first_none f 0 xs none k x there)

-- where all items pass a test, none fails it
pub none_unless : {X A : Type 0} (test : X → Bool) (fault : ℕ → A) (i : ℕ) (xs : List X) → list_all test xs ≡ true
    → first_in (λ place x. fault_unless (test x) (fault place)) i xs ≡ None
none_unless test fault i [] all = refl
none_unless test fault i (x ∷ xs) all =
    let parts = and_parts (test x) (list_all test xs) all in
    rw parts.0 (none_unless test fault (i + 1) xs parts.1)
