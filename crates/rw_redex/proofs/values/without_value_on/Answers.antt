-- An attribute without a value is the first, or the first is one of those that are left.
use Rattle.std.proofs.Common.{◌≡◌, ◌==◌, ◌&&◌, ℕ, Bool, Option, Some, None, List, map, slice_get, not, sym, ap, ◌∙◌}
use Rattle.rw_schema.specs.declared.parts.AttrDef.{AttrDef}
use Rattle.rw_schema.specs.declared.signature.AttrEnds.{AttrEnds}
use Rattle.rw_schema.specs.First.{fault_unless}
use Rattle.rw_schema.specs.Presentation.{ends_of_attribute}
use Rattle.rw_spec.specs.Instance.{Instance}
use Rattle.rw_terms.specs.declared.code.OpCode.{OpCode}
use Rattle.rw_rule.specs.RuleLists.{RuleLists}
use Rattle.rw_rule.specs.declared.refusal.Refusal.{Refusal}
use Rattle.rw_rule.specs.declared.refusal.Refusal.TheVariants.{NoValue}
use Rattle.rw_redex.specs.SetValues.{lacks_value}
use Rattle.rw_redex.proofs.Attributes.{attribute_at}
use Rattle.rw_redex.proofs.Firsts.{answer_here, answer_later}
use Rattle.rw_redex.proofs.values.without_value_on.Goals as goal

-- the refusal at an attribute
abbrev refusal_at : List OpCode → RuleLists → List ℕ → Instance → ℕ → ℕ → ℕ → AttrEnds → Option Refusal
refusal_at codes rule tuple X object part attr ends =
    fault_unless (not (ends.object.0 == object && lacks_value codes rule tuple X attr part)) (NoValue part (record { 0 = attr }))

pub returns-then-lacks_value_of : goal.returns-then-lacks_value_of
returns-then-lacks_value_of c = λ codes tuple X are.
    let number : ℕ = c.loop-number.number in
    let part : ℕ = c.args.part in
    let attributes : List AttrDef = c.args.schema.now.attributes in
    let ends : AttrEnds = ends_of_attribute c.ends-item.result in
    let there : slice_get (map ends_of_attribute attributes) number ≡ Some ends =
    attribute_at c.attribute_list-ends-items.result.now attributes number c.ends-item.result c.attribute_list-ends-items.ensures.value c.loop-number-test.true c.ends-item.is in
    let here : refusal_at codes c.args.rule.now tuple X c.args.object.0 part number ends ≡ Some (NoValue part (record { 0 = number })) =
    ap (λ (lacks : Bool). fault_unless (not lacks) (NoValue part (record { 0 = number }))) (sym (c.if-lacks_value_of.ensures codes tuple X are)) in
    sym (c.loop-number.invariant codes tuple X are
    ∙ answer_here (refusal_at codes c.args.rule.now tuple X c.args.object.0 part) (map ends_of_attribute attributes) number ends (NoValue part (record { 0 = number })) there here)

pub loop-number-preserved : goal.loop-number-preserved
loop-number-preserved c = λ codes tuple X are.
    let number : ℕ = c.loop-number.number in
    let part : ℕ = c.args.part in
    let attributes : List AttrDef = c.args.schema.now.attributes in
    let ends : AttrEnds = ends_of_attribute c.ends-item.result in
    let there : slice_get (map ends_of_attribute attributes) number ≡ Some ends =
    attribute_at c.attribute_list-ends-items.result.now attributes number c.ends-item.result c.attribute_list-ends-items.ensures.value c.loop-number-test.true c.ends-item.is in
    let none : refusal_at codes c.args.rule.now tuple X c.args.object.0 part number ends ≡ None =
    ap (λ (lacks : Bool). fault_unless (not lacks) (NoValue part (record { 0 = number }))) (sym (c.if-lacks_value_of.ensures codes tuple X are)) in
    c.loop-number.invariant codes tuple X are
    ∙ answer_later (refusal_at codes c.args.rule.now tuple X c.args.object.0 part) (map ends_of_attribute attributes) number ends there none
