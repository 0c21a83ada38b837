-- All that is read is what was read so far, with what is read of the values that are left.
use Rattle.rw_docspan.specs.Instances as spec
use Rattle.rw_doc.proofs.Listed.{SomeSo}
use Rattle.rw_docspan.proofs.cells.cells_with.Given as goal

abbrev pub invariant-loop-value : goal.invariant-loop-value
invariant-loop-value l = SomeSo (spec.cell_of l.kind) l.values l.value-index l.cells.items
