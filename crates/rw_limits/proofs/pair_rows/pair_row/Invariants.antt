-- The places of the pairs so far.
use Rattle.std.proofs.Common.{◌≡◌, map, take}
use Rattle.rw_spec.specs.Tabled.{instance_of_table}
use Rattle.rw_limits.specs.inner.PairLists.{value_of_pair}
use Rattle.rw_limits.proofs.pair_rows.pair_row.Given as goal

abbrev pub invariant-loop-pair : goal.invariant-loop-pair
invariant-loop-pair l = l.row.items ≡ map (value_of_pair (instance_of_table l.left) (instance_of_table l.right) l.arrow.0 l.to) (take l.pair-index l.from)
