-- The first fault of all is the first of what is left.
use Rattle.std.proofs.Common.{◌≡◌, map, drop}
use Rattle.rw_schema.specs.First.{first_in}
use Rattle.rw_schema.specs.Presentation.{signature_of, ends_of_attribute}
use Rattle.rw_rule.specs.RuleParts.{rule_of_parts}
use Rattle.rw_rule.specs.Sets.{part_without, value_missing}
use Rattle.rw_rule.proofs.given.first_value_missing.Given as goal

abbrev pub invariant-loop-number : goal.invariant-loop-number
invariant-loop-number l =
    let rule = rule_of_parts l.parts in
    value_missing (signature_of l.schema) rule ≡ first_in (part_without rule) l.number (drop l.number (map ends_of_attribute l.schema.attributes))
