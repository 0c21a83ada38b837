-- What goes by one part comes to the others.
use Rattle.std.proofs.Common.{◌≡◌, ◌∙◌, ap, arith}
use Rattle.rw_pattern.specs.PatternLists.{PatternLists, size_of}
use Rattle.rw_spo.specs.PairContexts.{applied}
use Rattle.rw_spo.specs.inner.Removal.{partner}
use Rattle.rw_spo.proofs.Growth.{marking_step}
use Rattle.rw_spo.proofs.Reasons.{partner_goes}
use Rattle.rw_spo.proofs.beside.mark_partners.Goals as goal

pub loop-part-preserved : goal.loop-part-preserved
loop-part-preserved g c =
    let C = g.P.Probe.signature c.args._probe.now in
    let X = g.P.Probe.instance c.args._probe.now in
    let rule = c.args.rule.now in
    let tuple = c.args.tuple.now in
    let size : c.size-part-end.result ≡ size_of rule.keep c.args.element.object = c.size-part-end.ensures ∙ ap (λ (keep : PatternLists). size_of keep c.args.element.object) c.keep.ensures in
    marking_step C (applied rule tuple X) c.args.removed.now c.loop-part.removed c.mark.new.self c.loop-part.part (partner rule tuple c.args.element) c.partner.result
    c.loop-part.invariant c.partner.ensures
    (λ marked is. partner_goes C rule tuple X c.requires.site c.args.element marked c.loop-part.part c.requires.goes (rw (← size) c.loop-part-test.true) is)
    c.in_ok-mark.ensures

pub returns-clause-kept : goal.returns-clause-kept
returns-clause-kept g c = λ k element below is.
    let size : c.size-part-end.result ≡ size_of c.args.rule.now.keep c.args.element.object =
    c.size-part-end.ensures ∙ ap (λ (keep : PatternLists). size_of keep c.args.element.object) c.keep.ensures in
    c.loop-part.invariant.1 k element (omega (arith, below, size, c.loop-part-test.false)) is
