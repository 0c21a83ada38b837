-- The lengths so far are those of the lists passed.
use Rattle.std.proofs.Common.{◌≡◌, length, map, take}
use Rattle.rw_app.proofs.counts.lengths_of.Given as goal

abbrev pub invariant-loop-list : goal.invariant-loop-list
invariant-loop-list l = l.lengths.items ≡ map (λ list. length list.items) (take l.list-index l.lists)
