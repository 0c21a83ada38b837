-- One arrow more is followed back.
use Rattle.std.proofs.Common.{◌≡◌, ◌∙◌, ◌<◌, ◌≤◌, ℕ, List, Some, length, map, slice_get, refl, sym, ap, subst, arith}
use Rattle.std.proofs.lemmas.List.{length-map}
use Rattle.std.proofs.lemmas.Option.{slice_get_within}
use Rattle.rw_schema.specs.declared.parts.ArrowDef.{ArrowDef}
use Rattle.rw_schema.specs.Presentation.{ends_of_arrow, signature_of}
use Rattle.rw_schema.specs.Signature.{Signature}
use Rattle.rw_pattern.proofs.Shapes.{ends_at}
use Rattle.rw_redex.proofs.RuleParts.{listed_arrow_known}
use Rattle.rw_redex.specs.RuleParts.{HasArrow, IsSpanOver}
use Rattle.rw_spo.specs.PairContexts.{applied}
use Rattle.rw_spo.proofs.Growth.{arrow_step}
use Rattle.rw_spo.proofs.along.mark_sources.Goals as goal

pub mark_along-requires-clause-arrow : goal.mark_along-requires-clause-arrow
mark_along-requires-clause-arrow g c =
    let arrows : List ArrowDef = c.args.schema.now.arrows in
    let rule = c.args.rule.now in
    let span : IsSpanOver (signature_of c.args.schema.now) rule = subst (λ (C : Signature). IsSpanOver C rule) c.requires.probe c.requires.site.span in
    subst (λ (C : Signature). HasArrow C rule c.loop-number.number (ends_of_arrow c.ends-item.result)) (sym c.requires.probe)
    (listed_arrow_known (signature_of c.args.schema.now) rule c.arrow_list-ends-items.result.now arrows c.loop-number.number c.ends-item.result
    c.arrow_list-ends-items.ensures.category span c.arrow_list-ends-items.ensures.value refl c.loop-number-test.true c.ends-item.is)

pub loop-number-preserved : goal.loop-number-preserved
loop-number-preserved g c =
    let C = g.P.Probe.signature c.args.probe.now in
    let S = applied c.args.rule.now c.args.tuple.now (g.P.Probe.instance c.args.probe.now) in
    let arrows : List ArrowDef = c.args.schema.now.arrows in
    let listed : slice_get (map ends_of_arrow arrows) c.loop-number.number ≡ Some (ends_of_arrow c.ends-item.result) =
    ends_at c.arrow_list-ends-items.result.now arrows c.loop-number.number c.ends-item.result c.arrow_list-ends-items.ensures.value c.loop-number-test.true c.ends-item.is in
    let there : slice_get C.arrows c.loop-number.number ≡ Some (ends_of_arrow c.ends-item.result) =
    subst (λ (C : Signature). slice_get C.arrows c.loop-number.number ≡ Some (ends_of_arrow c.ends-item.result)) (sym c.requires.probe) listed in
    arrow_step C S c.args.removed.now c.loop-number.removed c.mark_along.new.removed c.args.element c.loop-number.number (ends_of_arrow c.ends-item.result) there
    c.loop-number.invariant c.in_ok-mark_along.ensures.grows c.in_ok-mark_along.ensures.followed

pub returns-clause-followed : goal.returns-clause-followed
returns-clause-followed g c = λ bare a ends there enters x has leads.
    let all : c.arrow_list-ends-items.result.now ≡ c.args.schema.now.arrows = c.arrow_list-ends-items.ensures.value in
    let listed : slice_get (map ends_of_arrow c.args.schema.now.arrows) a ≡ Some ends = subst (λ (C : Signature). slice_get C.arrows a ≡ Some ends) c.requires.probe there in
    let within : a < length c.args.schema.now.arrows = rw (length-map c.args.schema.now.arrows ends_of_arrow) at (slice_get_within (map ends_of_arrow c.args.schema.now.arrows) a ends listed) in
    c.loop-number.invariant.1 a ends (omega (arith, within, ap length all, c.loop-number-test.false)) there enters x has leads
