-- The names of the pairs of the objects so far.
use Rattle.std.proofs.Common.{◌≡◌, length, map, take}
use Rattle.std.specs.List.{range_with_len}
use Rattle.rw_limits.proofs.pair_lists.pair_names.Given as goal

abbrev pub invariant-loop-list : goal.invariant-loop-list
invariant-loop-list l = map (λ list. list.items) l.names.items ≡ map (λ list. range_with_len 0 (length list.items)) (take l.list-index l.pairs)
