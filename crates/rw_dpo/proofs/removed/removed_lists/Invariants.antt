-- The names of the objects so far.
use Rattle.std.proofs.Common.{◌≡◌, map}
use Rattle.std.specs.List.{range_with_len}
use Rattle.rw_dpo.specs.Contexts.{removed_names}
use Rattle.rw_dpo.proofs.removed.removed_lists.Given as goal

abbrev pub invariant-loop-object : goal.invariant-loop-object
invariant-loop-object g l = map (λ list. list.items) l.lists.items ≡ map (removed_names l.rule l.tuple (g.P.Probe.instance l.probe)) (range_with_len 0 l.object)
