-- Names that count from 0.
use Rattle.std.proofs.Common.{◌≡◌, ℕ, true, nat_lt}
use Rattle.std.specs.List.{list_all, range_with_len}
use Rattle.std.proofs.lemmas.Bool.{and_from, lt-ltb}
use Rattle.rw_spec.specs.Ascending.{ascends}
use Rattle.rw_spec.proofs.Ranges.{range_ascends, range_below}
use Rattle.rw_spec.proofs.Sequences.{list_all_from_contained}
use Rattle.rw_table.specs.TableFaults.{are_names}

-- the numbers below n are names below n
pub range_named : (n : ℕ) → are_names n (range_with_len 0 n) ≡ true
range_named n =
    and_from (ascends (range_with_len 0 n)) (list_all (λ name. nat_lt name n) (range_with_len 0 n)) (range_ascends 0 n)
    (list_all_from_contained (λ name. nat_lt name n) (range_with_len 0 n) (λ name among. lt-ltb name n (range_below n name among)))
