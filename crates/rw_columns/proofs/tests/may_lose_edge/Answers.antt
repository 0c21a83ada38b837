-- What the tests found is what the removal needs.
use Rattle.std.proofs.Common.{◌≡◌, ◌∙◌, length, sym, ap}
use Rattle.std.proofs.lemmas.List.{length-map}
use Rattle.rw_schema.specs.Presentation.{ends_of_arrow, ends_of_attribute}
use Rattle.rw_schema.specs.Signature.{Signature}
use Rattle.rw_spec.specs.Ends.{target_of}
use Rattle.rw_spec.proofs.Look.{contains_found}
use Rattle.rw_columns.specs.Columned.{instance_of_columns, next_of}
use Rattle.rw_columns.proofs.Examples.{removal_fits, two}
use Rattle.rw_columns.proofs.tests.may_lose_edge.Goals as goal

pub returns : goal.returns
returns c = λ live.
    let K = c.args.columns.now in
    let schema = c.args.schema.now in
    let objects : K.signature.objects ≡ 2 = ap (λ (C : Signature). C.objects) c.requires ∙ sym c.objects.ensures.value ∙ c.if-objects-ne2.false in
    let arrows : length K.signature.arrows ≡ 2 =
    ap (λ (C : Signature). length C.arrows) c.requires ∙ length-map schema.arrows ends_of_arrow ∙ sym c.arrows.ensures.value ∙ c.if-arrows-ne2.false in
    let attributes : length K.signature.attributes ≡ 0 =
    ap (λ (C : Signature). length C.attributes) c.requires ∙ length-map schema.attributes ends_of_attribute ∙ sym c.attributes.ensures.value ∙ c.if-attributes-ne0.false in
    let equations : length K.signature.equations ≡ 0 = ap (λ (C : Signature). length C.equations) c.requires ∙ ap length (sym c.equation_list.ensures.value) ∙ c.if-equation_list-ne0.false in
    removal_fits K objects arrows attributes equations c.known.ensures.instance
    (two (λ a. target_of K.signature a ≡ 0) (sym c.target.ensures.target ∙ c.if-target-ne0.false) (sym c.target-else-target-ne0.ensures.target ∙ c.if-target-ne0-2.false))
    (two (λ object. next_of K object ≡ 3) (sym c.next_name.ensures ∙ c.if-next_name-ne3.false) (sym c.next_name-else-next_name-ne3.ensures ∙ c.if-next_name-ne3-2.false))
    (contains_found ((instance_of_columns K).names 1) 0 (sym c.is_live.ensures ∙ live))
