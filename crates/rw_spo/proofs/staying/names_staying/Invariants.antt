-- The names of the parts so far.
use Rattle.std.proofs.Common.{◌≡◌, map}
use Rattle.std.specs.List.{range_with_len}
use Rattle.rw_spo.specs.inner.Staying.{name_staying}
use Rattle.rw_spo.proofs.staying.names_staying.Given as goal

abbrev pub invariant-loop-part : goal.invariant-loop-part
invariant-loop-part l = l.names.items ≡ map (name_staying l.removed l.rule l.tuple l.object.0) (range_with_len 0 l.part)
