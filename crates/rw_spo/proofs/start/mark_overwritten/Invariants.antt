-- All that goes of the attributes so far is there.
use Rattle.std.proofs.Common.{◌≡◌, ◌<◌, ℕ, Some, slice_get}
use Rattle.rw_schema.specs.declared.signature.AttrEnds.{AttrEnds}
use Rattle.rw_pattern.specs.PatternLists.{size_of}
use Rattle.rw_spo.specs.PairContexts.{applied}
use Rattle.rw_spo.specs.inner.Removal.{Grows, HasBelow, overwritten}
use Rattle.rw_spo.proofs.start.mark_overwritten.Given as goal

abbrev pub invariant-loop-number : goal.invariant-loop-number
invariant-loop-number g l =
    Grows (g.P.Probe.signature l.probe) (applied l.rule l.tuple (g.P.Probe.instance l.probe)) l.fn.removed l.removed
    × ((c : ℕ) (ends : AttrEnds) → c < l.number → slice_get (g.P.Probe.signature l.probe).attributes c ≡ Some ends
    → HasBelow (size_of l.rule.keep ends.object.0) (overwritten l.rule l.tuple c ends.object.0) l.removed)
