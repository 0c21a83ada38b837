-- The first fault of arrows or attributes, by their ends.
use Rattle.std.proofs.Common.{◌≡◌, ◌∙◌, ℕ, ◌+◌, ◌<◌, Option, Some, None, List, length, map, get_or, drop, sym, ap}
use Rattle.std.proofs.lemmas.List.{length-map, get_or-map}
use Rattle.rw_schema.specs.First.{first_in}
use Rattle.rw_schema.proofs.Firsts.{first_here, first_next}

-- the ends at a place are those of what stands there
ends_is : {X E : Type 0} (ends_of : X → E) (xs : List X) (i : ℕ) (x : X) → i < length xs → x ≡ get_or xs i x → ends_of x ≡ get_or (map ends_of xs) i (ends_of x)
ends_is ends_of xs i x within is = sym (get_or-map ends_of xs i x (ends_of x) within ∙ ap ends_of (sym is))

-- a place has its ends
ends_within : {X E : Type 0} (ends_of : X → E) (xs : List X) (i : ℕ) → i < length xs → i < length (map ends_of xs)
ends_within ends_of xs i within = rw (length-map xs ends_of) within

-- this one has a fault: it is the first of those that are left
pub ends_here : {X E A : Type 0} (ends_of : X → E) (f : ℕ → E → Option A) (xs : List X) (i : ℕ) (x : X) (fault : A)
    → i < length xs → x ≡ get_or xs i x → f i (ends_of x) ≡ Some fault → first_in f i (drop i (map ends_of xs)) ≡ Some fault
ends_here ends_of f xs i x fault within is here =
    first_here f i (map ends_of xs) (ends_of x) fault (ends_within ends_of xs i within) (ends_is ends_of xs i x within is) here

-- this one has no fault: the first of those that are left comes later
pub ends_next : {X E A : Type 0} (ends_of : X → E) (f : ℕ → E → Option A) (xs : List X) (i : ℕ) (x : X)
    → i < length xs → x ≡ get_or xs i x → f i (ends_of x) ≡ None → first_in f i (drop i (map ends_of xs)) ≡ first_in f (i + 1) (drop (i + 1) (map ends_of xs))
ends_next ends_of f xs i x within is none =
    first_next f i (map ends_of xs) (ends_of x) (ends_within ends_of xs i within) (ends_is ends_of xs i x within is) none
