-- Counts of faults: they never fall, and they stop at the last value of a 64-bit counter.
use Rattle.std.specs.Prelude.{ℕ, ◌+◌, ◌-◌, ◌^◌, ◌≤◌, max, min, Result, Ok, Err}

-- one more; the last value stays, and so would one past it
abbrev pub next_count : ℕ → ℕ
next_count n = max n (min (n + 1) (2 ^ 64 - 1))

-- the count rose; one that stands at the last value counts as risen
abbrev pub Rose : ℕ → ℕ → Type 0
Rose before now = next_count before ≤ now

-- the count after a call that counts its failure and nothing else
abbrev pub count_after : {T E : Type 0} → ℕ → Result T E → ℕ
count_after before (Ok value) = before
count_after before (Err error) = next_count before
