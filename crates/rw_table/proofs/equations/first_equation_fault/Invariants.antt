-- The first fault of all is the first of what is left.
use Rattle.std.proofs.Common.{◌≡◌, drop}
use Rattle.rw_schema.specs.First.{first_in}
use Rattle.rw_table.specs.inner.Along.{instance_along}
use Rattle.rw_table.specs.TableFaults.{failure_of}
use Rattle.rw_table.proofs.equations.first_equation_fault.Given as goal

abbrev pub invariant-loop-place : goal.invariant-loop-place
invariant-loop-place l =
    first_in (failure_of (instance_along l.arrows l.rows)) 0 l.equations
    ≡ first_in (failure_of (instance_along l.arrows l.rows)) l.place (drop l.place l.equations)
