-- What goes of one part comes to the others.
use Rattle.std.proofs.Common.{◌≡◌, ◌∙◌, ap, arith}
use Rattle.rw_schema.specs.Presentation.{ends_of_arrow}
use Rattle.rw_pattern.specs.PatternLists.{PatternLists, size_of}
use Rattle.rw_spo.specs.PairContexts.{applied}
use Rattle.rw_spo.specs.inner.Removal.{source_in}
use Rattle.rw_spo.proofs.Sources.{in_row_goes}
use Rattle.rw_spo.proofs.Growth.{marking_step}
use Rattle.rw_spo.proofs.along.mark_in_row.Goals as goal

pub loop-part-preserved : goal.loop-part-preserved
loop-part-preserved g c =
    let C = g.P.Probe.signature c.args._probe.now in
    let X = g.P.Probe.instance c.args._probe.now in
    let rule = c.args.rule.now in
    let tuple = c.args._tuple.now in
    let ends = ends_of_arrow c.args.ends.now in
    let size : c.size-part-end.result ≡ size_of rule.right ends.source.0 = c.size-part-end.ensures ∙ ap (λ (right : PatternLists). size_of right ends.source.0) c.right.ensures in
    marking_step C (applied rule tuple X) c.args.removed.now c.loop-part.removed c.mark.new.self c.loop-part.part (source_in rule c.args.arrow.0 ends.source.0 c.args.element.part) c.source_at.result
    c.loop-part.invariant c.source_at.ensures
    (λ marked is. in_row_goes C rule tuple X c.requires.site c.args.element c.requires.goes c.args.arrow.0 ends c.requires.arrow.is c.requires.right c.requires.part c.requires.enters
    c.loop-part.part marked (rw (← size) c.loop-part-test.true) is)
    c.in_ok-mark.ensures

pub returns-clause-there : goal.returns-clause-there
returns-clause-there g c = λ k element below is.
    let source = c.args.ends.now.source.0 in
    let size : c.size-part-end.result ≡ size_of c.args.rule.now.right source = c.size-part-end.ensures ∙ ap (λ (right : PatternLists). size_of right source) c.right.ensures in
    c.loop-part.invariant.1 k element (omega (arith, below, size, c.loop-part-test.false)) is
