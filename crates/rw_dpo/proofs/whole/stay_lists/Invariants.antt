-- The lists of the objects so far.
use Rattle.std.proofs.Common.{◌≡◌, map}
use Rattle.std.specs.List.{range_with_len}
use Rattle.rw_dpo.specs.Contexts.{all_stay}
use Rattle.rw_dpo.proofs.whole.stay_lists.Given as goal

abbrev pub invariant-loop-object : goal.invariant-loop-object
invariant-loop-object l = map (λ list. list.items) l.lists.items ≡ map (all_stay l.pattern) (range_with_len 0 l.object)
