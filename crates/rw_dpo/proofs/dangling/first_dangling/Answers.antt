-- An arrow that dangles is the first, or the first is one of those that are left.
use Rattle.std.proofs.Common.{◌≡◌, ◌∙◌, Some, List, map, slice_get, refl, sym, subst}
use Rattle.rw_schema.specs.declared.parts.ArrowDef.{ArrowDef}
use Rattle.rw_schema.specs.Presentation.{signature_of, ends_of_arrow}
use Rattle.rw_schema.specs.Signature.{Signature}
use Rattle.rw_pattern.proofs.Shapes.{ends_at}
use Rattle.rw_redex.specs.Obstructions.{dangling_at}
use Rattle.rw_redex.proofs.Firsts.{answer_here, answer_later}
use Rattle.rw_redex.proofs.RuleParts.{listed_arrow_known}
use Rattle.rw_redex.specs.RuleParts.{HasArrow, IsSpanOver}
use Rattle.rw_dpo.proofs.dangling.first_dangling.Goals as goal

pub dangling_at-requires-clause-arrow : goal.dangling_at-requires-clause-arrow
dangling_at-requires-clause-arrow g c =
    let arrows : List ArrowDef = c.args.schema.now.arrows in
    let rule = c.args.rule.now in
    let span : IsSpanOver (signature_of c.args.schema.now) rule = subst (λ (C : Signature). IsSpanOver C rule) c.requires.probe c.requires.site.span in
    subst (λ (C : Signature). HasArrow C rule c.loop-number.number (ends_of_arrow c.ends-item.result)) (sym c.requires.probe)
    (listed_arrow_known (signature_of c.args.schema.now) rule c.arrow_list-ends-items.result.now arrows c.loop-number.number c.ends-item.result
    c.arrow_list-ends-items.ensures.category span c.arrow_list-ends-items.ensures.value refl c.loop-number-test.true c.ends-item.is)

pub returns-in-Some : goal.returns-in-Some
returns-in-Some g c =
    let arrows : List ArrowDef = c.args.schema.now.arrows in
    let number = c.loop-number.number in
    let there : slice_get (map ends_of_arrow arrows) number ≡ Some (ends_of_arrow c.ends-item.result) =
    ends_at c.arrow_list-ends-items.result.now arrows number c.ends-item.result c.arrow_list-ends-items.ensures.value c.loop-number-test.true c.ends-item.is in
    sym (c.loop-number.invariant
    ∙ answer_here (dangling_at c.args.rule.now c.args.tuple.now (g.P.Probe.instance c.args.probe.now)) (map ends_of_arrow arrows) number (ends_of_arrow c.ends-item.result)
    c.in-Some.refusal there (sym c.in-Some.ensures))

pub loop-number-preserved : goal.loop-number-preserved
loop-number-preserved g c =
    let arrows : List ArrowDef = c.args.schema.now.arrows in
    let number = c.loop-number.number in
    let there : slice_get (map ends_of_arrow arrows) number ≡ Some (ends_of_arrow c.ends-item.result) =
    ends_at c.arrow_list-ends-items.result.now arrows number c.ends-item.result c.arrow_list-ends-items.ensures.value c.loop-number-test.true c.ends-item.is in
    c.loop-number.invariant
    ∙ answer_later (dangling_at c.args.rule.now c.args.tuple.now (g.P.Probe.instance c.args.probe.now)) (map ends_of_arrow arrows) number (ends_of_arrow c.ends-item.result)
    there (sym c.dangling_at.ensures ∙ c.in_default.is)
