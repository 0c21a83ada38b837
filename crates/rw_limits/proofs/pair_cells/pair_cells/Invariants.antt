-- The cells of the attributes so far.
use Rattle.std.proofs.Common.{◌≡◌, map, take}
use Rattle.rw_schema.specs.First.{map_in}
use Rattle.rw_schema.specs.Presentation.{ends_of_attribute}
use Rattle.rw_spec.specs.Tabled.{instance_of_table}
use Rattle.rw_limits.specs.inner.PairLists.{cells_of_pairs}
use Rattle.rw_limits.proofs.pair_cells.pair_cells.Given as goal

abbrev pub invariant-loop-place : goal.invariant-loop-place
invariant-loop-place l =
    map (λ list. list.items) l.cells.items
    ≡ map_in (cells_of_pairs (instance_of_table l.left) (instance_of_table l.right) (map (λ list. list.items) l.pairs)) 0 (map ends_of_attribute (take l.place l.attributes))
