-- The names of an attribute go behind the others.
use Rattle.std.proofs.Common.{◌≡◌, List, map, ap, ◌∙◌}
use Rattle.std.proofs.lemmas.List.{map_push}
use Rattle.rw_schema.specs.declared.parts.AttrDef.{AttrDef}
use Rattle.rw_schema.specs.Presentation.{ends_of_attribute}
use Rattle.rw_redex.proofs.Attributes.{attribute_at}
use Rattle.rw_redex.proofs.Mapped.{mapped_in_more}
use Rattle.rw_dpo.specs.Contexts.{blank_names}
use Rattle.rw_dpo.proofs.blank.blank_lists.Goals as goal

pub blank_names-requires-clause-attribute : goal.blank_names-requires-clause-attribute
blank_names-requires-clause-attribute g c =
    let attributes : List AttrDef = c.args.schema.now.attributes in
    rw c.requires.probe (attribute_at c.attribute_list-ends-items.result.now attributes c.loop-number.number c.ends-item.result
    c.attribute_list-ends-items.ensures.value c.loop-number-test.true c.ends-item.is)

pub loop-number-preserved : goal.loop-number-preserved
loop-number-preserved g c =
    let attributes : List AttrDef = c.args.schema.now.attributes in
    let all : c.attribute_list-ends-items.result.now ≡ attributes = c.attribute_list-ends-items.ensures.value in
    ap (map (λ list. list.items)) c.in_ok-push.ensures.items
    ∙ map_push (λ list. list.items) c.loop-number.lists.items c.in_ok-blank_names.field-0
    ∙ mapped_in_more (blank_names c.args.rule.now c.args.tuple.now (g.P.Probe.instance c.args.probe.now)) ends_of_attribute attributes c.loop-number.number c.ends-item.result
    (map (λ list. list.items) c.loop-number.lists.items) c.in_ok-blank_names.field-0.items (rw (← all) c.loop-number-test.true) (rw (← all) c.ends-item.is)
    c.loop-number.invariant c.in_ok-blank_names.ensures
