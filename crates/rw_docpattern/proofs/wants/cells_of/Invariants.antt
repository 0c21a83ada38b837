-- The entries so far want something.
use Rattle.std.proofs.Common.{◌≡◌, Some}
use Rattle.rw_doc.specs.Chain.{all_some}
use Rattle.rw_docpattern.specs.Patterns as spec
use Rattle.rw_docpattern.proofs.wants.cells_of.Given as goal

abbrev pub invariant-loop-entry : goal.invariant-loop-entry
invariant-loop-entry l = all_some (spec.cell_of l.names) l.yielded ≡ Some l.cells.items
