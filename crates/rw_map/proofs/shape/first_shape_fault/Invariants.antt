-- The first fault of all is the first of what is left.
use Rattle.std.proofs.Common.{◌≡◌, ℕ, drop, length}
use Rattle.std.specs.List.{range_with_len}
use Rattle.rw_schema.specs.First.{first_in, fault_unless}
use Rattle.rw_schema.specs.Presentation.{signature_of}
use Rattle.rw_spec.specs.Tabled.{instance_of_table}
use Rattle.rw_map.specs.HomFaults.{has_images, shape_fault}
use Rattle.rw_map.specs.declared.fault.HomFault.TheVariants.{Shape}
use Rattle.rw_map.proofs.shape.first_shape_fault.Given as goal

abbrev pub invariant-loop-place : goal.invariant-loop-place
invariant-loop-place l =
    shape_fault (signature_of l.schema) (instance_of_table l.x) l.map
    ≡ first_in (λ place (object : ℕ). fault_unless (has_images (instance_of_table l.x) l.map object) (Shape (record { 0 = object }))) l.place (drop l.place (range_with_len 0 (length l.schema.objects)))
