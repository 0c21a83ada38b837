-- The first fault of all is the first of what is left.
use Rattle.std.proofs.Common.{◌≡◌, ◌==◌, drop, get_or}
use Rattle.rw_schema.specs.First.{first_in, fault_unless}
use Rattle.rw_pattern.specs.declared.map_fault.MapFault.TheVariants.{NotNatural}
use Rattle.rw_pattern.proofs.check.unequal_in.Given as goal

abbrev pub invariant-loop-part : goal.invariant-loop-part
invariant-loop-part l =
    first_in (λ part value. fault_unless (get_or l.targets value 0 == get_or l.row (get_or l.sources part 0) 0) (NotNatural l.arrow part)) 0 l.values
    ≡ first_in (λ part value. fault_unless (get_or l.targets value 0 == get_or l.row (get_or l.sources part 0) 0) (NotNatural l.arrow part)) l.part (drop l.part l.values)
