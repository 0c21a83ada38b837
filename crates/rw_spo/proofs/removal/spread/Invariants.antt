-- The elements so far are followed; each place is gone past once.
use Rattle.std.proofs.Common.{◌-◌, ◌^◌, ◌≤◌, length}
use Rattle.rw_spo.specs.PairContexts.{applied}
use Rattle.rw_spo.specs.inner.Removal.{AreFollowed, Grows}
use Rattle.rw_spo.proofs.removal.spread.Given as goal

abbrev pub invariant-loop-place : goal.invariant-loop-place
invariant-loop-place g l =
    let C = g.P.Probe.signature l.probe in
    let S = applied l.rule l.tuple (g.P.Probe.instance l.probe) in
    Grows C S l.fn.removed l.removed × (l.place ≤ length l.removed) × AreFollowed C l.rule l.tuple S l.removed l.place

abbrev pub decreases-loop-place : goal.decreases-loop-place
decreases-loop-place g l = 2 ^ 63 - l.place
