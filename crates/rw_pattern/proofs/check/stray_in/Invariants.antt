-- The first fault of all is the first of what is left.
use Rattle.std.proofs.Common.{◌≡◌, nat_lt, drop}
use Rattle.rw_schema.specs.First.{first_in, fault_unless}
use Rattle.rw_pattern.specs.declared.map_fault.MapFault.TheVariants.{Range}
use Rattle.rw_pattern.proofs.check.stray_in.Given as goal

abbrev pub invariant-loop-part : goal.invariant-loop-part
invariant-loop-part l =
    first_in (λ part image. fault_unless (nat_lt image l.size) (Range l.object part)) 0 l.images
    ≡ first_in (λ part image. fault_unless (nat_lt image l.size) (Range l.object part)) l.part (drop l.part l.images)
