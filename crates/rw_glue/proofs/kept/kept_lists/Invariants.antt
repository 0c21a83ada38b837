-- The names of the objects so far.
use Rattle.std.proofs.Common.{◌≡◌, Some, map, take}
use Rattle.rw_glue.proofs.kept.kept_lists.Given as goal

abbrev pub invariant-loop-list : goal.invariant-loop-list
invariant-loop-list l = map (map (λ name. Some name)) (map (λ list. list.items) l.lists.items) ≡ map (λ list. list.items) (take l.list-index l.of_keep)
