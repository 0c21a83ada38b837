-- The first fault of all is the first of what is left.
use Rattle.std.proofs.Common.{◌≡◌, drop}
use Rattle.rw_schema.specs.First.{first_in, fault_unless}
use Rattle.rw_schema.specs.Presentation.{ends_of_attribute}
use Rattle.rw_rule.specs.declared.fault.RuleFault.TheVariants.{NoValueGiven}
use Rattle.rw_rule.specs.Images.{parts_of}
use Rattle.rw_rule.specs.RuleParts.{rule_of_parts}
use Rattle.rw_rule.specs.Sets.{is_given, part_without}
use Rattle.rw_rule.proofs.given.first_part_without.Given as goal

abbrev pub invariant-loop-part : goal.invariant-loop-part
invariant-loop-part l =
    let rule = rule_of_parts l.parts in
    let object = l.attribute.object.0 in
    part_without rule l.attr.0 (ends_of_attribute l.attribute)
    ≡ first_in (λ place part. fault_unless (is_given rule l.attr.0 object part) (NoValueGiven l.attr part)) l.part (drop l.part (parts_of rule.right object))
