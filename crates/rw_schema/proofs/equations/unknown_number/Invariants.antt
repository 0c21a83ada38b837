-- The first fault of all is the first of what is left.
use Rattle.std.proofs.Common.{◌≡◌, drop}
use Rattle.rw_schema.specs.declared.section.Section.TheVariants.{Equations}
use Rattle.rw_schema.specs.declared.fault.SchemaFault.TheVariants.{Unknown}
use Rattle.rw_schema.specs.First.{first_in, fault_unless}
use Rattle.rw_schema.specs.SchemaFaults.{is_of_schema, first_nameless}
use Rattle.rw_schema.proofs.equations.unknown_number.Given as goal

abbrev pub invariant-loop-place : goal.invariant-loop-place
invariant-loop-place l = first_nameless l.objects l.arrows l.equations ≡ first_in (λ place equation. fault_unless (is_of_schema l.objects l.arrows equation) (Unknown Equations place)) l.place (drop l.place l.equations)
