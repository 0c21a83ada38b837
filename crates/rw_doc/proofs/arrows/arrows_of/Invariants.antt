-- All that is read is what is read of the items that are left, behind what was read so far.
use Rattle.std.proofs.Common.{◌≡◌, length}
use Rattle.rw_doc.specs.Schemas as spec
use Rattle.rw_doc.proofs.Readings.{ReadBehind}
use Rattle.rw_doc.proofs.arrows.arrows_of.Given as goal

abbrev pub invariant-loop-item : goal.invariant-loop-item
invariant-loop-item l = ReadBehind (spec.read_arrow l.objects) l.items l.item-index l.arrows.items × (length l.arrows.items ≡ l.item-index)
