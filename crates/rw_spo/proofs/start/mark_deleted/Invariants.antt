-- All that goes of the objects so far is there.
use Rattle.std.proofs.Common.{◌<◌, ℕ}
use Rattle.rw_pattern.specs.PatternLists.{size_of}
use Rattle.rw_spo.specs.PairContexts.{applied}
use Rattle.rw_spo.specs.inner.Removal.{Grows, HasBelow, deleted}
use Rattle.rw_spo.proofs.start.mark_deleted.Given as goal

abbrev pub invariant-loop-object : goal.invariant-loop-object
invariant-loop-object g l =
    Grows (g.P.Probe.signature l.probe) (applied l.rule l.tuple (g.P.Probe.instance l.probe)) l.fn.removed l.removed
    × ((object : ℕ) → object < l.object → HasBelow (size_of l.rule.goal.left object) (deleted l.rule l.tuple object) l.removed)
