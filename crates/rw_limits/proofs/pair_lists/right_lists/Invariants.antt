-- The right parts of the pairs of the objects so far.
use Rattle.std.proofs.Common.{◌≡◌, map, take}
use Rattle.rw_limits.proofs.pair_lists.right_lists.Given as goal

abbrev pub invariant-loop-list : goal.invariant-loop-list
invariant-loop-list l = map (λ list. list.items) l.parts.items ≡ map (λ list. map (λ pair. pair.1) list.items) (take l.list-index l.pairs)
