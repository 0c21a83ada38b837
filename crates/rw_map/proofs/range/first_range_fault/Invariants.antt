-- The first fault of all is the first of what is left.
use Rattle.std.proofs.Common.{◌≡◌, ℕ, drop, length}
use Rattle.std.specs.List.{range_with_len}
use Rattle.rw_schema.specs.First.{first_in}
use Rattle.rw_schema.specs.Presentation.{signature_of}
use Rattle.rw_spec.specs.Tabled.{instance_of_table}
use Rattle.rw_map.specs.HomFaults.{image_fault, stray_image}
use Rattle.rw_map.proofs.range.first_range_fault.Given as goal

abbrev pub invariant-loop-place : goal.invariant-loop-place
invariant-loop-place l =
    image_fault (signature_of l.schema) (instance_of_table l.y) l.map
    ≡ first_in (λ place (object : ℕ). stray_image (instance_of_table l.y) l.map object) l.place (drop l.place (range_with_len 0 (length l.schema.objects)))
