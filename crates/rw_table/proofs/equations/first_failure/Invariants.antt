-- The first failure of all is the first of what is left.
use Rattle.std.proofs.Common.{◌≡◌, drop}
use Rattle.rw_schema.specs.First.{first_in, fault_unless}
use Rattle.rw_schema.specs.RowLists.{list_at}
use Rattle.rw_spec.specs.Instance.{agrees_at}
use Rattle.rw_table.specs.inner.Along.{instance_along}
use Rattle.rw_table.specs.TableFaults.{failure_of}
use Rattle.rw_table.specs.declared.fault.TableFault.TheVariants.{Equation}
use Rattle.rw_table.proofs.equations.first_failure.Given as goal

abbrev pub invariant-loop-name : goal.invariant-loop-name
invariant-loop-name l =
    failure_of (instance_along l.arrows l.rows) l.place l.equation
    ≡ first_in (λ position name. fault_unless (agrees_at (instance_along l.arrows l.rows) l.equation name) (Equation l.place name)) l.name-index
    (drop l.name-index (list_at l.rows.names l.equation.object.0))
