-- First the arrows are followed back, and then the kept parts.
use Rattle.rw_spo.specs.PairContexts.{applied}
use Rattle.rw_spo.specs.inner.Removal.{part_at}
use Rattle.rw_spo.proofs.Growth.{grown, grows_more}
use Rattle.rw_spo.proofs.removal.follow.Goals as goal

pub returns-clause-grows : goal.returns-clause-grows
returns-clause-grows g c =
    grows_more (g.P.Probe.signature c.args.probe.now) (applied c.args.rule.now c.args.tuple.now (g.P.Probe.instance c.args.probe.now))
    c.args.removed.now c.mark_sources.new.removed c.mark_partners.new.removed c.in_ok-mark_sources.ensures.grows c.in_ok-mark_partners.ensures.grows

pub returns-clause-followed : goal.returns-clause-followed
returns-clause-followed g c = record {
  arrows = λ bare a ends there enters x has leads.
      grown (g.P.Probe.signature c.args.probe.now) (applied c.args.rule.now c.args.tuple.now (g.P.Probe.instance c.args.probe.now))
      c.mark_sources.new.removed c.mark_partners.new.removed c.in_ok-mark_partners.ensures.grows (part_at c.args.element.is_right ends.source.0 x)
      (c.in_ok-mark_sources.ensures.followed bare a ends there enters x has leads);
  kept = c.in_ok-mark_partners.ensures.kept;
}
