-- The first fault of all is the first of what is left.
use Rattle.std.proofs.Common.{◌≡◌, drop}
use Rattle.rw_schema.specs.First.{first_in}
use Rattle.rw_schema.specs.Presentation.{signature_of}
use Rattle.rw_pattern.specs.PatternFaults.{equation_fault, failure_of}
use Rattle.rw_pattern.proofs.equations.first_equation_fault.Given as goal

abbrev pub invariant-loop-place : goal.invariant-loop-place
invariant-loop-place l =
    equation_fault (signature_of l.schema) l.pattern ≡ first_in (failure_of l.pattern) l.place (drop l.place l.schema.equations)
