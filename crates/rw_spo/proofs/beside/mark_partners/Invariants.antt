-- All that goes by the parts so far is there.
use Rattle.rw_spo.specs.PairContexts.{applied}
use Rattle.rw_spo.specs.inner.Removal.{Grows, HasBelow, partner}
use Rattle.rw_spo.proofs.beside.mark_partners.Given as goal

abbrev pub invariant-loop-part : goal.invariant-loop-part
invariant-loop-part g l =
    Grows (g.P.Probe.signature l._probe) (applied l.rule l.tuple (g.P.Probe.instance l._probe)) l.fn.removed l.removed
    × HasBelow l.part (partner l.rule l.tuple l.element) l.removed
