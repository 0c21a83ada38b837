-- The marks of an attribute go behind the others.
use Rattle.std.proofs.Common.{◌≡◌, ◌∙◌, List, Some, map, ap}
use Rattle.std.proofs.lemmas.List.{map_push}
use Rattle.rw_schema.specs.declared.parts.AttrDef.{AttrDef}
use Rattle.rw_schema.specs.declared.signature.AttrEnds.{AttrEnds}
use Rattle.rw_schema.specs.Presentation.{ends_of_attribute}
use Rattle.rw_redex.proofs.Mapped.{mapped_in_more}
use Rattle.rw_spo.specs.inner.Staying.{marks_staying}
use Rattle.rw_spo.proofs.staying.right_cell_lists.Goals as goal

pub loop-number-preserved : goal.loop-number-preserved
loop-number-preserved c =
    let attributes : List AttrDef = c.args.schema.now.attributes in
    let all : c.attribute_list-ends-items.result.now ≡ attributes = c.attribute_list-ends-items.ensures.value in
    ap (map (λ list. list.items)) c.in_ok-push.ensures.items
    ∙ map_push (λ list. list.items) c.loop-number.lists.items c.in_ok-marks_staying.field-0
    ∙ mapped_in_more (λ c' (ends : AttrEnds). marks_staying c.args.removed.now c.args.right.now (Some c') ends.object.0) ends_of_attribute attributes
    c.loop-number.number c.ends-item.result (map (λ list. list.items) c.loop-number.lists.items) c.in_ok-marks_staying.field-0.items
    (rw (← all) c.loop-number-test.true) (rw (← all) c.ends-item.is) c.loop-number.invariant c.in_ok-marks_staying.ensures
