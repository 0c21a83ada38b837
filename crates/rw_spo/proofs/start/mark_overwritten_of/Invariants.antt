-- All that goes of the parts so far is there.
use Rattle.rw_spo.specs.PairContexts.{applied}
use Rattle.rw_spo.specs.inner.Removal.{Grows, HasBelow, overwritten}
use Rattle.rw_spo.proofs.start.mark_overwritten_of.Given as goal

abbrev pub invariant-loop-part : goal.invariant-loop-part
invariant-loop-part g l =
    Grows (g.P.Probe.signature l._probe) (applied l.rule l.tuple (g.P.Probe.instance l._probe)) l.fn.removed l.removed
    × HasBelow l.part (overwritten l.rule l.tuple l.attribute.0 l.ends.object.0) l.removed
