-- All that is read is what is read of the items that are left, behind what was read so far.
use Rattle.std.proofs.Common.{◌≡◌, length}
use Rattle.rw_doc.specs.Schemas as spec
use Rattle.rw_doc.proofs.Readings.{ReadBehind}
use Rattle.rw_doc.proofs.attributes.attributes_of.Given as goal

abbrev pub invariant-loop-item : goal.invariant-loop-item
invariant-loop-item l = ReadBehind (spec.read_attribute l.objects) l.items l.item-index l.attributes.items × (length l.attributes.items ≡ l.item-index)
