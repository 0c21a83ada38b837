-- So many empty lists are there.
use Rattle.std.proofs.Common.{◌≡◌, [], map, replicate}
use Rattle.rw_dpo.proofs.whole.empty_lists.Given as goal

abbrev pub invariant-loop-place : goal.invariant-loop-place
invariant-loop-place l = map (λ list. list.items) l.lists.items ≡ replicate l.place []
