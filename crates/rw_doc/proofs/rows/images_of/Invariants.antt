-- All that is read is what was read so far, with what is read of the items that are left.
use Rattle.rw_doc.specs.Instances as spec
use Rattle.rw_doc.proofs.Readings.{ReadAt}
use Rattle.rw_doc.proofs.rows.images_of.Given as goal

abbrev pub invariant-loop-position : goal.invariant-loop-position
invariant-loop-position l = ReadAt (spec.read_image l.targets l.arrow) l.items l.position l.images.items
