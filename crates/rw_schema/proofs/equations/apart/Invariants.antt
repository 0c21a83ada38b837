-- The first fault of all is the first of what is left.
use Rattle.std.proofs.Common.{◌≡◌, drop}
use Rattle.rw_schema.specs.declared.fault.SchemaFault.TheVariants.{Ends}
use Rattle.rw_schema.specs.First.{first_in, fault_unless}
use Rattle.rw_schema.specs.SchemaFaults.{sides_meet, first_apart}
use Rattle.rw_schema.proofs.equations.apart.Given as goal

abbrev pub invariant-loop-place : goal.invariant-loop-place
invariant-loop-place l = first_apart l.arrows l.equations ≡ first_in (λ place equation. fault_unless (sides_meet l.arrows equation) (Ends place)) l.place (drop l.place l.equations)
