-- The next element is followed.
use Rattle.rw_spec.proofs.Sequences.{contains_at}
use Rattle.rw_dpo.proofs.Sites.{kept_at}
use Rattle.rw_spo.specs.PairContexts.{applied}
use Rattle.rw_spo.proofs.Growth.{follow_step}
use Rattle.rw_spo.proofs.removal.spread.Goals as goal

pub follow-requires-clause-kept : goal.follow-requires-clause-kept
follow-requires-clause-kept g c =
    let goes = c.loop-place.invariant.0.sound c.requires.sound c.at-element.result (contains_at c.loop-place.removed c.loop-place.place c.at-element.result c.at-element.ensures) in
    kept_at (g.P.Probe.signature c.args.probe.now) c.args.rule.now c.args.tuple.now (g.P.Probe.instance c.args.probe.now) c.at-element.result.object c.requires.site goes.object

pub follow-requires-clause-goes : goal.follow-requires-clause-goes
follow-requires-clause-goes g c =
    c.loop-place.invariant.0.sound c.requires.sound c.at-element.result (contains_at c.loop-place.removed c.loop-place.place c.at-element.result c.at-element.ensures)

pub loop-place-preserved : goal.loop-place-preserved
loop-place-preserved g c =
    follow_step (g.P.Probe.signature c.args.probe.now) c.args.rule.now c.args.tuple.now (applied c.args.rule.now c.args.tuple.now (g.P.Probe.instance c.args.probe.now))
    c.args.removed.now c.loop-place.removed c.follow.new.removed c.loop-place.place c.at-element.result c.loop-place.invariant c.at-element.ensures
    c.in_ok-follow.ensures.grows c.in_ok-follow.ensures.followed
