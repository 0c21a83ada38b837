-- The first fault of all is the first of what is left.
use Rattle.std.proofs.Common.{◌≡◌, drop}
use Rattle.rw_schema.specs.First.{first_in, fault_unless}
use Rattle.rw_table.specs.TableFaults.{is_cell_of}
use Rattle.rw_table.specs.declared.fault.TableFault.TheVariants as faults
use Rattle.rw_table.proofs.kinds.first_of_another_kind.Given as goal

abbrev pub invariant-loop-position : goal.invariant-loop-position
invariant-loop-position l =
    first_in (λ position cell. fault_unless (is_cell_of l.kind cell) (faults.Kind l.attribute position)) 0 l.cells
    ≡ first_in (λ position cell. fault_unless (is_cell_of l.kind cell) (faults.Kind l.attribute position)) l.position (drop l.position l.cells)
