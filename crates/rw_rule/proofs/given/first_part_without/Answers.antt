-- The part at a place of the parts is that place.
use Rattle.std.proofs.Common.{◌≡◌, ◌∙◌, ℕ, ◌<◌, ◌≤◌, Option, length, get_or, sym, zero-add}
use Rattle.std.specs.List.{range_with_len}
use Rattle.std.proofs.lemmas.List.FromFn.{length-range_with_len, get_or-range_with_len}
use Rattle.rw_schema.specs.First.{fault_unless}
use Rattle.rw_schema.proofs.Firsts.{first_here, first_next, first_past, unless_false, unless_true}
use Rattle.rw_pattern.specs.PatternLists.{size_of}
use Rattle.rw_rule.specs.declared.fault.RuleFault.{RuleFault}
use Rattle.rw_rule.specs.declared.fault.RuleFault.TheVariants.{NoValueGiven}
use Rattle.rw_rule.specs.RuleParts.{rule_of_parts}
use Rattle.rw_rule.specs.Sets.{is_given}
use Rattle.rw_rule.proofs.given.first_part_without.Goals as goal

-- the part at a place
part_is : (size part : ℕ) → part < size → part ≡ get_or (range_with_len 0 size) part part
part_is size part below = sym (get_or-range_with_len 0 size part part below ∙ zero-add part)

-- a part is within the list of the parts
part_within : (size part : ℕ) → part < size → part < length (range_with_len 0 size)
part_within size part below = rw (length-range_with_len 0 size) below

pub returns-then-not-is_given : goal.returns-then-not-is_given
returns-then-not-is_given c =
    let rule = rule_of_parts c.args.parts.now in
    let object : ℕ = c.args.attribute.now.object.0 in
    let size : ℕ = size_of rule.right object in
    let part : ℕ = c.loop-part.part in
    let below : part < size = rw (← c.size-part-end.ensures) c.loop-part-test.true in
    let fault : ℕ → ℕ → Option RuleFault = λ place part. fault_unless (is_given rule c.args.attr.0 object part) (NoValueGiven c.args.attr part) in
    sym (c.loop-part.invariant
    ∙ first_here fault part (range_with_len 0 size) part (NoValueGiven c.args.attr part) (part_within size part below) (part_is size part below)
    (unless_false (is_given rule c.args.attr.0 object part) (NoValueGiven c.args.attr part) (sym c.is_given.ensures ∙ c.if-not-is_given.true)))

pub loop-part-preserved : goal.loop-part-preserved
loop-part-preserved c =
    let rule = rule_of_parts c.args.parts.now in
    let object : ℕ = c.args.attribute.now.object.0 in
    let size : ℕ = size_of rule.right object in
    let part : ℕ = c.loop-part.part in
    let below : part < size = rw (← c.size-part-end.ensures) c.loop-part-test.true in
    let fault : ℕ → ℕ → Option RuleFault = λ place part. fault_unless (is_given rule c.args.attr.0 object part) (NoValueGiven c.args.attr part) in
    c.loop-part.invariant
    ∙ first_next fault part (range_with_len 0 size) part (part_within size part below) (part_is size part below)
    (unless_true (is_given rule c.args.attr.0 object part) (NoValueGiven c.args.attr part) (sym c.is_given.ensures ∙ c.if-not-is_given.false))

pub returns : goal.returns
returns c =
    let rule = rule_of_parts c.args.parts.now in
    let object : ℕ = c.args.attribute.now.object.0 in
    let size : ℕ = size_of rule.right object in
    let part : ℕ = c.loop-part.part in
    let past : size ≤ part = rw (← c.size-part-end.ensures) c.loop-part-test.false in
    let fault : ℕ → ℕ → Option RuleFault = λ place part. fault_unless (is_given rule c.args.attr.0 object part) (NoValueGiven c.args.attr part) in
    sym (c.loop-part.invariant ∙ first_past fault part part (range_with_len 0 size) (rw (length-range_with_len 0 size) past))
