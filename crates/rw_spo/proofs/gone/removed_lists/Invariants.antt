-- The lists of the objects so far.
use Rattle.std.proofs.Common.{◌≡◌, None, map}
use Rattle.std.specs.List.{range_with_len}
use Rattle.rw_spo.specs.inner.Staying.{names_alone}
use Rattle.rw_spo.proofs.gone.removed_lists.Given as goal

abbrev pub invariant-loop-object : goal.invariant-loop-object
invariant-loop-object g l = map (λ list. list.items) l.lists.items ≡ map (names_alone l.removed (g.P.Probe.instance l.probe) None) (range_with_len 0 l.object)
