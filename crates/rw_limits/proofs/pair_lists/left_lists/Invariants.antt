-- The left parts of the pairs of the objects so far.
use Rattle.std.proofs.Common.{◌≡◌, map, take}
use Rattle.rw_limits.proofs.pair_lists.left_lists.Given as goal

abbrev pub invariant-loop-list : goal.invariant-loop-list
invariant-loop-list l = map (λ list. list.items) l.parts.items ≡ map (λ list. map (λ pair. pair.0) list.items) (take l.list-index l.pairs)
