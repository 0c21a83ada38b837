-- All that is read is what was read so far, with what is read of the items that are left.
use Rattle.std.proofs.Common.{map}
use Rattle.rw_schema.specs.Presentation.{signature_of}
use Rattle.rw_doc.specs.Instances as spec
use Rattle.rw_doc.proofs.Readings.{ReadAt}
use Rattle.rw_doc.proofs.rows.row_lists.Given as goal

abbrev pub invariant-loop-arrow : goal.invariant-loop-arrow
invariant-loop-arrow l = ReadAt (spec.read_row (signature_of l.schema) l.parts) l.items l.arrow (map (λ row. row.items) l.rows.items)
