-- The first fault of all is the first of what is left.
use Rattle.std.proofs.Common.{◌≡◌, drop}
use Rattle.rw_schema.specs.declared.section.Section.TheVariants.{Attributes}
use Rattle.rw_schema.specs.declared.fault.SchemaFault.TheVariants.{Unknown}
use Rattle.rw_schema.specs.First.{first_in, fault_unless}
use Rattle.rw_schema.specs.SchemaFaults.{has_holder, first_homeless}
use Rattle.rw_schema.proofs.schema.unknown_holder.Given as goal

abbrev pub invariant-loop-place : goal.invariant-loop-place
invariant-loop-place l = first_homeless l.objects l.attributes ≡ first_in (λ place attribute. fault_unless (has_holder l.objects attribute) (Unknown Attributes place)) l.place (drop l.place l.attributes)
