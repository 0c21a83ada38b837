-- All that goes of the parts so far is there.
use Rattle.rw_spo.specs.PairContexts.{applied}
use Rattle.rw_spo.specs.inner.Removal.{Grows, HasBelow, source_in}
use Rattle.rw_spo.proofs.along.mark_in_row.Given as goal

abbrev pub invariant-loop-part : goal.invariant-loop-part
invariant-loop-part g l =
    Grows (g.P.Probe.signature l._probe) (applied l.rule l._tuple (g.P.Probe.instance l._probe)) l.fn.removed l.removed
    × HasBelow l.part (source_in l.rule l.arrow.0 l.ends.source.0 l.element.part) l.removed
