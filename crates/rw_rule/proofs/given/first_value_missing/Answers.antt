-- An attribute is tested, and then those that are left.
use Rattle.std.proofs.Common.{◌≡◌, ◌∙◌, ◌<◌, ℕ, List, length, map, sym, ap, get_or}
use Rattle.std.proofs.lemmas.List.{length-map, get_or-map}
use Rattle.rw_schema.specs.declared.parts.AttrDef.{AttrDef}
use Rattle.rw_schema.specs.Presentation.{ends_of_attribute}
use Rattle.rw_schema.proofs.Firsts.{first_here, first_next}
use Rattle.rw_rule.specs.RuleParts.{rule_of_parts}
use Rattle.rw_rule.specs.Sets.{part_without}
use Rattle.rw_rule.proofs.given.first_value_missing.Goals as goal

-- the ends of an attribute in the list of all ends
ends_is : (attributes : List AttrDef) (i : ℕ) (attribute : AttrDef) → i < length attributes → attribute ≡ get_or attributes i attribute
    → ends_of_attribute attribute ≡ get_or (map ends_of_attribute attributes) i (ends_of_attribute attribute)
ends_is attributes i attribute within is =
    sym (get_or-map ends_of_attribute attributes i attribute (ends_of_attribute attribute) within ∙ ap ends_of_attribute (sym is))

pub returns-in-Some : goal.returns-in-Some
returns-in-Some c =
    let attributes : List AttrDef = c.args.schema.now.attributes in
    let attribute : AttrDef = c.attribute-item.result in
    let within : c.loop-number.number < length attributes = rw (← c.attribute_list-attribute-items.ensures.value) c.loop-number-test.true in
    let is : attribute ≡ get_or attributes c.loop-number.number attribute = rw (← c.attribute_list-attribute-items.ensures.value) c.attribute-item.is in
    sym (c.loop-number.invariant
    ∙ first_here (part_without (rule_of_parts c.args.parts.now)) c.loop-number.number (map ends_of_attribute attributes) (ends_of_attribute attribute) c.in-Some.fault
    (rw (length-map attributes ends_of_attribute) within) (ends_is attributes c.loop-number.number attribute within is) (sym c.in-Some.ensures))

pub loop-number-preserved : goal.loop-number-preserved
loop-number-preserved c =
    let attributes : List AttrDef = c.args.schema.now.attributes in
    let attribute : AttrDef = c.attribute-item.result in
    let within : c.loop-number.number < length attributes = rw (← c.attribute_list-attribute-items.ensures.value) c.loop-number-test.true in
    let is : attribute ≡ get_or attributes c.loop-number.number attribute = rw (← c.attribute_list-attribute-items.ensures.value) c.attribute-item.is in
    c.loop-number.invariant
    ∙ first_next (part_without (rule_of_parts c.args.parts.now)) c.loop-number.number (map ends_of_attribute attributes) (ends_of_attribute attribute)
    (rw (length-map attributes ends_of_attribute) within) (ends_is attributes c.loop-number.number attribute within is)
    (sym c.first_part_without.ensures ∙ c.in_default.is)
