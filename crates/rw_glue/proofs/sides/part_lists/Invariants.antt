-- The parts of the objects so far.
use Rattle.std.proofs.Common.{◌≡◌, map, take}
use Rattle.std.specs.List.{range_with_len}
use Rattle.rw_glue.proofs.sides.part_lists.Given as goal

abbrev pub invariant-loop-size : goal.invariant-loop-size
invariant-loop-size l = map (λ list. list.items) l.lists.items ≡ map (range_with_len 0) (take l.size-index l.sizes)
