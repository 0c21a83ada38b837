-- The numbers of pairs of the objects so far.
use Rattle.std.proofs.Common.{◌≡◌, length, map, take}
use Rattle.rw_limits.proofs.pair_lists.pair_counts.Given as goal

abbrev pub invariant-loop-list : goal.invariant-loop-list
invariant-loop-list l = l.counts.items ≡ map (λ list. length list.items) (take l.list-index l.pairs)
