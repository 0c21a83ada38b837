-- The first fault of all is the first of what is left.
use Rattle.std.proofs.Common.{◌≡◌, drop}
use Rattle.rw_schema.specs.First.{first_in, fault_unless}
use Rattle.rw_rule.specs.declared.fault.RuleFault.TheVariants.{Unbound}
use Rattle.rw_rule.specs.declared.set.SetCell.{SetCell}
use Rattle.rw_rule.specs.RuleParts.{rule_of_parts}
use Rattle.rw_rule.specs.Sets.{is_closed, unbound_set}
use Rattle.rw_rule.proofs.sets.first_unbound_set.Given as goal

abbrev pub invariant-loop-place : goal.invariant-loop-place
invariant-loop-place l =
    unbound_set (rule_of_parts l.parts)
    ≡ first_in (λ place (set : SetCell). fault_unless (is_closed l.parts.goal.left set.term) (Unbound place)) l.place (drop l.place l.parts.sets.items)
