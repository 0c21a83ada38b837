-- The first fault of all is the first of what is left.
use Rattle.std.proofs.Common.{◌≡◌, map, drop}
use Rattle.rw_schema.specs.First.{first_in}
use Rattle.rw_schema.specs.Presentation.{ends_of_attribute}
use Rattle.rw_spec.specs.Homomorphism.{map_of}
use Rattle.rw_spec.specs.Tabled.{instance_of_table}
use Rattle.rw_map.specs.HomFaults.{lost_cell}
use Rattle.rw_map.proofs.kept.first_cell_fault.Given as goal

abbrev pub invariant-loop-place : goal.invariant-loop-place
invariant-loop-place l =
    let attributes = map ends_of_attribute l.schema.attributes in
    let fault = lost_cell (instance_of_table l.x) (instance_of_table l.y) (map_of (instance_of_table l.x) l.map) in
    first_in fault 0 attributes ≡ first_in fault l.place (drop l.place attributes)
