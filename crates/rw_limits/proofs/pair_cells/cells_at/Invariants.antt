-- The cells of the pairs so far.
use Rattle.std.proofs.Common.{◌≡◌, map, take}
use Rattle.rw_spec.specs.Tabled.{instance_of_table}
use Rattle.rw_limits.specs.inner.PairLists.{cell_of_pair}
use Rattle.rw_limits.proofs.pair_cells.cells_at.Given as goal

abbrev pub invariant-loop-pair : goal.invariant-loop-pair
invariant-loop-pair l = l.cells.items ≡ map (cell_of_pair (instance_of_table l.left) (instance_of_table l.right) l.attribute.0) (take l.pair-index l.pairs)
