-- All that is read is what was read so far, with what is read of the items that are left.
use Rattle.std.proofs.Common.{map}
use Rattle.rw_schema.specs.Presentation.{signature_of}
use Rattle.rw_doc.specs.Instances as spec
use Rattle.rw_doc.proofs.Readings.{ReadAt}
use Rattle.rw_doc.proofs.cells.cell_lists.Given as goal

abbrev pub invariant-loop-attribute : goal.invariant-loop-attribute
invariant-loop-attribute l =
    ReadAt (spec.read_cell_list (signature_of l.schema) l.blanks l.parts) l.items l.attribute (map (λ list. list.items) l.lists.items)
