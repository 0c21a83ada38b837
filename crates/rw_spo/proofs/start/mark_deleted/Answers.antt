-- What goes of one object comes to the others.
use Rattle.rw_pattern.specs.PatternLists.{size_of}
use Rattle.rw_redex.proofs.RuleParts.{object_known}
use Rattle.rw_spo.specs.PairContexts.{applied}
use Rattle.rw_spo.specs.inner.Removal.{deleted}
use Rattle.rw_spo.proofs.Growth.{object_step}
use Rattle.rw_spo.proofs.start.mark_deleted.Goals as goal

pub mark_deleted_of-requires-clause-known : goal.mark_deleted_of-requires-clause-known
mark_deleted_of-requires-clause-known g c =
    object_known (g.P.Probe.signature c.args.probe.now) c.args.rule.now c.loop-object.object c.requires.site.span (rw (← c.requires.objects) c.loop-object-test.true)

pub loop-object-preserved : goal.loop-object-preserved
loop-object-preserved g c =
    object_step (g.P.Probe.signature c.args.probe.now) (applied c.args.rule.now c.args.tuple.now (g.P.Probe.instance c.args.probe.now))
    c.args.removed.now c.loop-object.removed c.mark_deleted_of.new.removed (size_of c.args.rule.now.goal.left) (deleted c.args.rule.now c.args.tuple.now) c.loop-object.object
    c.loop-object.invariant c.in_ok-mark_deleted_of.ensures.grows c.in_ok-mark_deleted_of.ensures.deleted
