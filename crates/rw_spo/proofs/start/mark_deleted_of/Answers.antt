-- What goes of one part comes to the others.
use Rattle.std.proofs.Common.{◌≡◌, ◌∙◌, ap}
use Rattle.rw_pattern.specs.PatternLists.{size_of}
use Rattle.rw_rule.specs.RuleLists.{GoalLists}
use Rattle.rw_spo.specs.PairContexts.{applied}
use Rattle.rw_spo.specs.inner.Removal.{deleted}
use Rattle.rw_spo.proofs.Growth.{marking_step}
use Rattle.rw_spo.proofs.Reasons.{deleted_must_go}
use Rattle.rw_spo.proofs.start.mark_deleted_of.Goals as goal

pub loop-part-preserved : goal.loop-part-preserved
loop-part-preserved g c =
    let C = g.P.Probe.signature c.args._probe.now in
    let X = g.P.Probe.instance c.args._probe.now in
    let rule = c.args.rule.now in
    let tuple = c.args.tuple.now in
    let size : c.size-part-end.result ≡ size_of rule.goal.left c.args.object.0 = c.size-part-end.ensures ∙ ap (λ (it : GoalLists). size_of it.left c.args.object.0) c.goal.ensures in
    marking_step C (applied rule tuple X) c.args.removed.now c.loop-part.removed c.mark.new.self c.loop-part.part (deleted rule tuple c.args.object.0) c.deleted.result
    c.loop-part.invariant c.deleted.ensures
    (λ marked is. deleted_must_go C rule tuple X c.requires.site c.args.object.0 c.loop-part.part marked c.requires.object (rw (← size) c.loop-part-test.true) is)
    c.in_ok-mark.ensures
