-- The lists of the objects so far.
use Rattle.std.proofs.Common.{◌≡◌, None, map}
use Rattle.std.specs.List.{range_with_len}
use Rattle.rw_spo.specs.inner.Staying.{marks_staying}
use Rattle.rw_spo.proofs.staying.right_lists.Given as goal

abbrev pub invariant-loop-object : goal.invariant-loop-object
invariant-loop-object l = map (λ list. list.items) l.lists.items ≡ map (marks_staying l.removed l.right None) (range_with_len 0 l.object)
