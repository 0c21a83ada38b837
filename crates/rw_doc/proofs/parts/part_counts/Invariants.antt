-- All that is read is what was read so far, with what is read of the items that are left.
use Rattle.rw_doc.specs.Instances as spec
use Rattle.rw_doc.proofs.Readings.{ReadAt}
use Rattle.rw_doc.proofs.parts.part_counts.Given as goal

abbrev pub invariant-loop-object : goal.invariant-loop-object
invariant-loop-object l = ReadAt spec.read_part_count l.items l.object l.counts.items
