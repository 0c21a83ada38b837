-- All attributes are gone through.
use Rattle.std.proofs.Common.{◌≡◌, ◌∙◌, List, length, ap, arith}
use Rattle.rw_schema.specs.declared.parts.AttrDef.{AttrDef}
use Rattle.rw_schema.specs.declared.signature.AttrEnds.{AttrEnds}
use Rattle.rw_schema.specs.Presentation.{ends_of_attribute}
use Rattle.rw_dpo.specs.Contexts.{all_stay}
use Rattle.rw_dpo.proofs.Ordered.{mapped_whole}
use Rattle.rw_dpo.proofs.whole.cells_stay.Goals as goal

pub returns : goal.returns
returns c =
    let attributes : List AttrDef = c.args.schema.now.attributes in
    let long : length c.attribute_list-ends-items.result.now ≡ length attributes = ap length c.attribute_list-ends-items.ensures.value in
    c.loop-ends.invariant
    ∙ mapped_whole (λ (ends : AttrEnds). all_stay c.args.pattern.now ends.object.0) ends_of_attribute attributes c.loop-ends.ends-index (omega arith)
