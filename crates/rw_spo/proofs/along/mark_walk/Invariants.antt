-- Each part of the walk is there, or still on the walk.
use Rattle.std.proofs.Common.{◌⊎◌, ℕ, false, Contains, length}
use Rattle.rw_spo.specs.PairContexts.{applied}
use Rattle.rw_spo.specs.inner.Removal.{Grows, part_at}
use Rattle.rw_spo.proofs.along.mark_walk.Given as goal

abbrev pub invariant-loop-name : goal.invariant-loop-name
invariant-loop-name g l =
    Grows (g.P.Probe.signature l._probe) (applied l._rule l._tuple (g.P.Probe.instance l._probe)) l.fn.removed l.removed
    × ((x : ℕ) → Contains l.fn.walk x → Contains l.walk x ⊎ Contains l.removed (part_at false l.object.0 x))
    × ((x : ℕ) → Contains l.walk x → Contains l.fn.walk x)

abbrev pub decreases-loop-name : goal.decreases-loop-name
decreases-loop-name g l = length l.walk
