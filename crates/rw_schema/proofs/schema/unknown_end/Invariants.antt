-- The first fault of all is the first of what is left.
use Rattle.std.proofs.Common.{◌≡◌, drop}
use Rattle.rw_schema.specs.declared.section.Section.TheVariants.{Arrows}
use Rattle.rw_schema.specs.declared.fault.SchemaFault.TheVariants.{Unknown}
use Rattle.rw_schema.specs.First.{first_in, fault_unless}
use Rattle.rw_schema.specs.SchemaFaults.{has_ends, first_unknown}
use Rattle.rw_schema.proofs.schema.unknown_end.Given as goal

abbrev pub invariant-loop-place : goal.invariant-loop-place
invariant-loop-place l = first_unknown l.objects l.arrows ≡ first_in (λ place arrow. fault_unless (has_ends l.objects arrow) (Unknown Arrows place)) l.place (drop l.place l.arrows)
