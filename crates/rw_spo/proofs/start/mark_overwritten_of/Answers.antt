-- What goes of one part comes to the others.
use Rattle.std.proofs.Common.{◌≡◌, ◌∙◌, ap}
use Rattle.rw_schema.specs.Presentation.{ends_of_attribute}
use Rattle.rw_pattern.specs.PatternLists.{PatternLists, size_of}
use Rattle.rw_spo.specs.PairContexts.{applied}
use Rattle.rw_spo.specs.inner.Removal.{overwritten}
use Rattle.rw_spo.proofs.Growth.{marking_step}
use Rattle.rw_spo.proofs.Reasons.{overwritten_must_go}
use Rattle.rw_spo.proofs.start.mark_overwritten_of.Goals as goal

pub loop-part-preserved : goal.loop-part-preserved
loop-part-preserved g c =
    let C = g.P.Probe.signature c.args._probe.now in
    let X = g.P.Probe.instance c.args._probe.now in
    let rule = c.args.rule.now in
    let tuple = c.args.tuple.now in
    let ends = ends_of_attribute c.args.ends.now in
    let size : c.size-part-end.result ≡ size_of rule.keep ends.object.0 = c.size-part-end.ensures ∙ ap (λ (keep : PatternLists). size_of keep ends.object.0) c.keep.ensures in
    marking_step C (applied rule tuple X) c.args.removed.now c.loop-part.removed c.mark.new.self c.loop-part.part (overwritten rule tuple c.args.attribute.0 ends.object.0) c.overwritten.result
    c.loop-part.invariant c.overwritten.ensures
    (λ marked is. overwritten_must_go C rule tuple X c.requires.site c.args.attribute.0 ends c.loop-part.part marked c.requires.attribute (rw (← size) c.loop-part-test.true) is)
    c.in_ok-mark.ensures
