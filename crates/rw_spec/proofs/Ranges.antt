-- Names that count from 0.
use Rattle.std.proofs.Common.{◌≡◌, ◌∙◌, ℕ, zero, suc, ◌+◌, ◌<◌, ◌≤◌, true, nat_lt, List, Contains, length, get_or, refl, sym, arith, zero-add}
use Rattle.std.specs.List.{range_with_len}
use Rattle.std.proofs.lemmas.Bool.{and_from, lt-ltb}
use Rattle.std.proofs.lemmas.List.FromFn.{length-range_with_len, get_or-range_with_len}
use Rattle.rw_spec.specs.Distinct.{AreDistinct}
use Rattle.rw_spec.specs.Instance.{look}
use Rattle.rw_spec.proofs.Look.{look_at}
use Rattle.rw_spec.specs.Ascending.{ascends}

-- each number stands at its own place
pub own_place : (n k d : ℕ) → k < n → get_or (range_with_len 0 n) k d ≡ k
own_place n k d below = get_or-range_with_len 0 n k d below ∙ zero-add k

-- the numbers below n are among those that count to n
pub range_has : (n k : ℕ) → k < n → Contains (range_with_len 0 n) k
range_has n k below = (k, rw (length-range_with_len 0 n) below, own_place n k k below)

-- no others are
pub range_below : (n k : ℕ) → Contains (range_with_len 0 n) k → k < n
range_below n k (place, within, is) =
    let below : place < n = rw (length-range_with_len 0 n) at within in
    rw (← is, own_place n place k below) below

-- they are distinct
pub range_distinct : (n : ℕ) → AreDistinct (range_with_len 0 n)
range_distinct n i j i_within j_within same =
    let i_below : i < n = rw (length-range_with_len 0 n) at i_within in
    let j_below : j < n = rw (length-range_with_len 0 n) at j_within in
    sym (own_place n i 0 i_below) ∙ same ∙ own_place n j 0 j_below

-- numbers that count ascend
pub range_ascends : (a n : ℕ) → ascends (range_with_len a n) ≡ true
range_ascends a zero = refl
range_ascends a (suc zero) = refl
range_ascends a (suc (suc n)) =
    and_from (nat_lt a (a + 1)) (ascends (range_with_len (a + 1) (suc n))) (lt-ltb a (a + 1) (omega arith)) (range_ascends (a + 1) (suc n))

-- the entry beside a number is the one at its place
pub look_range : {A : Type 0} (none : A) (n : ℕ) (entries : List A) (k : ℕ) → k < n → look none (range_with_len 0 n) entries k ≡ get_or entries k none
look_range none n entries k below =
    let within : k < length (range_with_len 0 n) = rw (length-range_with_len 0 n) below in
    rw (own_place n k 0 below) at (look_at none (range_with_len 0 n) entries k (range_distinct n) within)

-- a number of a range is in its bounds
pub range_bounds : (start count x : ℕ) → Contains (range_with_len start count) x → (start ≤ x) × (x < start + count)
range_bounds start count x (k, within, there) =
    let short : k < count = rw (length-range_with_len start count) at within in
    let is : start + k ≡ x = sym (get_or-range_with_len start count k x short) ∙ there in
    (omega arith, omega arith)

-- a number in the bounds of a range is there
pub range_contains : (start count k : ℕ) → k < count → Contains (range_with_len start count) (start + k)
range_contains start count k short =
    (k, rw (length-range_with_len start count) short, get_or-range_with_len start count k (start + k) short)
