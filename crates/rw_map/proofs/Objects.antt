-- The first fault of objects, which are the numbers from 0 on.
use Rattle.std.proofs.Common.{◌≡◌, ◌∙◌, ℕ, ◌+◌, ◌<◌, ◌≤◌, Option, Some, None, length, get_or, drop, slice_get, sym, ap, subst, zero-add}
use Rattle.std.specs.List.{range_with_len}
use Rattle.std.proofs.lemmas.List.FromFn.{length-range_with_len, get_or-range_with_len}
use Rattle.std.proofs.lemmas.Option.{slice_get-get_or, slice_get_within, get_or_from_slice_get}
use Rattle.rw_schema.specs.First.{first_in}
use Rattle.rw_schema.proofs.Firsts.{first_here, first_next, first_past}
use Rattle.rw_schema.proofs.Firsts.{none_at, none_from_each}

-- an object is within the list of all
object_within : (n object : ℕ) → object < n → object < length (range_with_len 0 n)
object_within n object below = rw (length-range_with_len 0 n) below

-- an object stands at its number
object_is : (n object : ℕ) → object < n → object ≡ get_or (range_with_len 0 n) object object
object_is n object below = sym (get_or-range_with_len 0 n object object below ∙ zero-add object)

-- this object has a fault: it is the first of those that are left
pub object_here : {A : Type 0} (f : ℕ → ℕ → Option A) (n object : ℕ) (fault : A) → object < n → f object object ≡ Some fault
    → first_in f object (drop object (range_with_len 0 n)) ≡ Some fault
object_here f n object fault below here = first_here f object (range_with_len 0 n) object fault (object_within n object below) (object_is n object below) here

-- this object has no fault: the first of those that are left comes later
pub object_next : {A : Type 0} (f : ℕ → ℕ → Option A) (n object : ℕ) → object < n → f object object ≡ None
    → first_in f object (drop object (range_with_len 0 n)) ≡ first_in f (object + 1) (drop (object + 1) (range_with_len 0 n))
object_next f n object below none = first_next f object (range_with_len 0 n) object (object_within n object below) (object_is n object below) none

-- past the last object there is no fault
pub object_past : {A : Type 0} (f : ℕ → ℕ → Option A) (n object : ℕ) → n ≤ object → first_in f object (drop object (range_with_len 0 n)) ≡ None
object_past f n object past = first_past f object object (range_with_len 0 n) (rw (length-range_with_len 0 n) past)

-- where no object has a fault, one of them has none
pub object_none : {A : Type 0} (f : ℕ → ℕ → Option A) (n object : ℕ) → first_in f 0 (range_with_len 0 n) ≡ None → object < n → f object object ≡ None
object_none f n object none below =
    let there : slice_get (range_with_len 0 n) object ≡ Some object =
    slice_get-get_or (range_with_len 0 n) object object (object_within n object below) ∙ ap (λ (x : ℕ). Some x) (sym (object_is n object below)) in
    none_at f (range_with_len 0 n) object object none there

-- there is no first fault of the objects where none of them has one
pub objects_none : {A : Type 0} (f : ℕ → ℕ → Option A) (n : ℕ) → ((object : ℕ) → object < n → f object object ≡ None) → first_in f 0 (range_with_len 0 n) ≡ None
objects_none f n each =
    none_from_each f (range_with_len 0 n) (λ k object there.
    let long : k < length (range_with_len 0 n) = slice_get_within (range_with_len 0 n) k object there in
    let below : k < n = rw (length-range_with_len 0 n) at long in
    let same : k ≡ object = object_is n k below ∙ get_or_from_slice_get (range_with_len 0 n) k object k there in
    subst (λ (x : ℕ). f k x ≡ None) same (each k below))
