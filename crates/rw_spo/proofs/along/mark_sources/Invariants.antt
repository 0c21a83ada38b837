-- The arrows so far are followed back.
use Rattle.std.proofs.Common.{◌≡◌, ◌<◌, ℕ, Some, slice_get}
use Rattle.rw_schema.specs.declared.signature.ArrowEnds.{ArrowEnds}
use Rattle.rw_spo.specs.PairContexts.{applied}
use Rattle.rw_spo.specs.inner.Removal.{Grows, IsFollowedAlong}
use Rattle.rw_spo.proofs.along.mark_sources.Given as goal

abbrev pub invariant-loop-number : goal.invariant-loop-number
invariant-loop-number g l =
    Grows (g.P.Probe.signature l.probe) (applied l.rule l.tuple (g.P.Probe.instance l.probe)) l.fn.removed l.removed
    × ((a : ℕ) (ends : ArrowEnds) → a < l.number → slice_get (g.P.Probe.signature l.probe).arrows a ≡ Some ends → ends.target.0 ≡ l.element.object
    → IsFollowedAlong (applied l.rule l.tuple (g.P.Probe.instance l.probe)) l.removed l.element a ends)
