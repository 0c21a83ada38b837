-- All that is read is what was read so far, with what is read of the items that are left.
use Rattle.rw_schema.specs.Presentation.{signature_of}
use Rattle.rw_doc.specs.Instances as spec
use Rattle.rw_doc.proofs.Readings.{ReadAt}
use Rattle.rw_doc.proofs.cells.cells_of.Given as goal

abbrev pub invariant-loop-position : goal.invariant-loop-position
invariant-loop-position l = ReadAt (spec.read_cell (signature_of l.schema) l.blanks l.attribute.0) l.items l.position l.cells.items
