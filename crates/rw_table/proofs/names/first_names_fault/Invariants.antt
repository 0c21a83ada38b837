-- The first fault of all is the first of what is left.
use Rattle.std.proofs.Common.{◌≡◌, drop, slice_index}
use Rattle.rw_schema.specs.First.{first_in, fault_unless}
use Rattle.rw_table.specs.TableFaults.{are_names, names_fault}
use Rattle.rw_table.specs.declared.fault.TableFault.TheVariants.{Names}
use Rattle.rw_table.proofs.names.first_names_fault.Given as goal

abbrev pub invariant-loop-place : goal.invariant-loop-place
invariant-loop-place l = names_fault l.rows ≡ first_in (λ object names. fault_unless (are_names (slice_index l.rows.next object) names) (Names (record { 0 = object }))) l.place (drop l.place l.rows.names)
