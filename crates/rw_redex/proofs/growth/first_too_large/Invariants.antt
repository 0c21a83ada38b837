-- The first object without room is the first of those that are left.
use Rattle.std.proofs.Common.{◌≡◌, nat_le, drop}
use Rattle.rw_schema.specs.First.{first_in, fault_unless}
use Rattle.rw_rule.specs.declared.refusal.Refusal.TheVariants.{TooLarge}
use Rattle.rw_redex.specs.Obstructions.{too_large, most_names}
use Rattle.rw_redex.specs.NewParts.{next_after}
use Rattle.rw_redex.proofs.growth.first_too_large.Given as goal

abbrev pub invariant-loop-number : goal.invariant-loop-number
invariant-loop-number l =
    let next = l.next in
    too_large l.rule next
    ≡ first_in (λ object name. fault_unless (nat_le (next_after l.rule next object) most_names) (TooLarge (record { 0 = object }))) l.number (drop l.number next)
