-- The first fault of all is the first of what is left.
use Rattle.std.proofs.Common.{◌≡◌, ◌==◌, drop}
use Rattle.std.specs.List.{list_any}
use Rattle.rw_schema.specs.First.{first_in, fault_unless}
use Rattle.rw_map.specs.declared.fault.HomFault.TheVariants.{Range}
use Rattle.rw_map.proofs.range.stray_in.Given as goal

abbrev pub invariant-loop-position : goal.invariant-loop-position
invariant-loop-position l =
    first_in (λ position image. fault_unless (list_any (λ name. name == image) l.names) (Range l.object position)) 0 l.images
    ≡ first_in (λ position image. fault_unless (list_any (λ name. name == image) l.names) (Range l.object position)) l.position (drop l.position l.images)
