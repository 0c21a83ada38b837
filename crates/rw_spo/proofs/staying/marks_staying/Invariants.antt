-- The marks of the parts so far.
use Rattle.std.proofs.Common.{◌≡◌, map}
use Rattle.std.specs.List.{range_with_len}
use Rattle.rw_spo.specs.inner.Staying.{stays_right}
use Rattle.rw_spo.proofs.staying.marks_staying.Given as goal

abbrev pub invariant-loop-part : goal.invariant-loop-part
invariant-loop-part l = l.marks.items ≡ map (stays_right l.removed l.attribute l.object.0) (range_with_len 0 l.part)
