-- The first fault of all is the first of what is left.
use Rattle.std.proofs.Common.{◌≡◌, drop}
use Rattle.rw_schema.specs.First.{first_in, fault_unless}
use Rattle.rw_schema.specs.Presentation.{signature_of}
use Rattle.rw_rule.specs.declared.fault.RuleFault.TheVariants.{BadTerm}
use Rattle.rw_rule.specs.declared.set.SetCell.{SetCell}
use Rattle.rw_rule.specs.RuleParts.{rule_of_parts}
use Rattle.rw_rule.specs.Sets.{bad_set, fits_set}
use Rattle.rw_rule.proofs.sets.first_bad_set.Given as goal

abbrev pub invariant-loop-place : goal.invariant-loop-place
invariant-loop-place l =
    let C = signature_of l.schema in
    let rule = rule_of_parts l.parts in
    bad_set C l.ops rule
    ≡ first_in (λ place (set : SetCell). fault_unless (fits_set C l.ops rule set) (BadTerm place)) l.place (drop l.place l.parts.sets.items)
