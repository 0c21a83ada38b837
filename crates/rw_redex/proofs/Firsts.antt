-- The first answer in what is left of a list.
use Rattle.std.proofs.Common.{◌≡◌, ℕ, ◌+◌, Option, Some, None, List, drop, slice_get, sym}
use Rattle.std.proofs.lemmas.Option.{slice_get_within, get_or_from_slice_get}
use Rattle.rw_schema.specs.First.{first_in}
use Rattle.rw_schema.proofs.Firsts.{first_here, first_next}

-- the answer at this place is the first
pub answer_here : {X A : Type 0} (f : ℕ → X → Option A) (xs : List X) (place : ℕ) (x : X) (answer : A) → slice_get xs place ≡ Some x
    → f place x ≡ Some answer → first_in f place (drop place xs) ≡ Some answer
answer_here f xs place x answer there here =
    first_here f place xs x answer (slice_get_within xs place x there) (sym (get_or_from_slice_get xs place x x there)) here

-- where there is none at this place, the first is that of the places after it
pub answer_later : {X A : Type 0} (f : ℕ → X → Option A) (xs : List X) (place : ℕ) (x : X) → slice_get xs place ≡ Some x
    → f place x ≡ None → first_in f place (drop place xs) ≡ first_in f (place + 1) (drop (place + 1) xs)
answer_later f xs place x there none =
    first_next f place xs x (slice_get_within xs place x there) (sym (get_or_from_slice_get xs place x x there)) none
