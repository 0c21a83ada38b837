-- What goes of one attribute comes to the others.
use Rattle.std.proofs.Common.{◌≡◌, ◌<◌, List, Some, length, map, slice_get, sym, ap, subst, arith}
use Rattle.std.proofs.lemmas.List.{length-map}
use Rattle.std.proofs.lemmas.Option.{slice_get_within}
use Rattle.rw_schema.specs.declared.parts.AttrDef.{AttrDef}
use Rattle.rw_schema.specs.Presentation.{ends_of_attribute}
use Rattle.rw_schema.specs.Signature.{Signature}
use Rattle.rw_pattern.specs.PatternLists.{size_of}
use Rattle.rw_redex.proofs.Attributes.{attribute_at}
use Rattle.rw_dpo.proofs.Sites.{kept_at}
use Rattle.rw_spo.specs.PairContexts.{applied}
use Rattle.rw_spo.specs.inner.Removal.{overwritten}
use Rattle.rw_spo.proofs.Growth.{attribute_step}
use Rattle.rw_spo.proofs.start.mark_overwritten.Goals as goal

pub mark_overwritten_of-requires-clause-kept : goal.mark_overwritten_of-requires-clause-kept
mark_overwritten_of-requires-clause-kept g c =
    let C = g.P.Probe.signature c.args.probe.now in
    let attributes : List AttrDef = c.args.schema.now.attributes in
    let there : slice_get C.attributes c.loop-number.number ≡ Some (ends_of_attribute c.ends-item.result) =
    rw c.requires.probe (attribute_at c.attribute_list-ends-items.result.now attributes c.loop-number.number c.ends-item.result
    c.attribute_list-ends-items.ensures.value c.loop-number-test.true c.ends-item.is) in
    kept_at C c.args.rule.now c.args.tuple.now (g.P.Probe.instance c.args.probe.now) c.ends-item.result.object.0 c.requires.site
    (c.requires.site.category.holders c.loop-number.number (ends_of_attribute c.ends-item.result) there)

pub loop-number-preserved : goal.loop-number-preserved
loop-number-preserved g c =
    let C = g.P.Probe.signature c.args.probe.now in
    let attributes : List AttrDef = c.args.schema.now.attributes in
    let there : slice_get C.attributes c.loop-number.number ≡ Some (ends_of_attribute c.ends-item.result) =
    rw c.requires.probe (attribute_at c.attribute_list-ends-items.result.now attributes c.loop-number.number c.ends-item.result
    c.attribute_list-ends-items.ensures.value c.loop-number-test.true c.ends-item.is) in
    attribute_step C (applied c.args.rule.now c.args.tuple.now (g.P.Probe.instance c.args.probe.now))
    c.args.removed.now c.loop-number.removed c.mark_overwritten_of.new.removed (size_of c.args.rule.now.keep) (overwritten c.args.rule.now c.args.tuple.now) c.loop-number.number
    (ends_of_attribute c.ends-item.result) there c.loop-number.invariant c.in_ok-mark_overwritten_of.ensures.grows c.in_ok-mark_overwritten_of.ensures.overwritten

pub returns-clause-overwritten : goal.returns-clause-overwritten
returns-clause-overwritten g c = λ attribute ends there k element below is.
    let attributes : List AttrDef = c.args.schema.now.attributes in
    let all : c.attribute_list-ends-items.result.now ≡ attributes = c.attribute_list-ends-items.ensures.value in
    let listed : slice_get (map ends_of_attribute attributes) attribute ≡ Some ends = subst (λ (C : Signature). slice_get C.attributes attribute ≡ Some ends) c.requires.probe there in
    let within : attribute < length attributes = rw (length-map attributes ends_of_attribute) at (slice_get_within (map ends_of_attribute attributes) attribute ends listed) in
    c.loop-number.invariant.1 attribute ends (omega (arith, within, ap length all, c.loop-number-test.false)) there k element below is
