-- The first fault of all is the first of what is left.
use Rattle.std.proofs.Common.{◌≡◌, drop, slice_get}
use Rattle.rw_schema.specs.First.{first_in, fault_unless}
use Rattle.rw_schema.specs.Presentation.{signature_of}
use Rattle.rw_pattern.specs.declared.cell.PatternCell.{PatternCell}
use Rattle.rw_pattern.specs.declared.fault.PatternFault.TheVariants.{Variable}
use Rattle.rw_pattern.specs.PatternFaults.{variable_fault, fits_variable}
use Rattle.rw_pattern.proofs.wants.first_variable_fault.Given as goal

abbrev pub invariant-loop-place : goal.invariant-loop-place
invariant-loop-place l =
    let C = signature_of l.schema in
    variable_fault C l.kinds l.pattern
    ≡ first_in (λ place (entry : PatternCell). fault_unless (fits_variable l.kinds (slice_get C.attributes entry.attr.0) entry.want) (Variable place)) l.place (drop l.place l.pattern.cells)
