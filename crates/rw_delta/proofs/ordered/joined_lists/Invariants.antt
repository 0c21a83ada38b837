-- The lists of the objects so far.
use Rattle.std.proofs.Common.{[], map}
use Rattle.rw_columns.specs.inner.Filled.{AreAll}
use Rattle.rw_delta.specs.inner.Gathered.{AreJoined}
use Rattle.rw_delta.proofs.ordered.joined_lists.Given as goal

abbrev pub invariant-loop-place : goal.invariant-loop-place
invariant-loop-place l =
    AreAll [] (AreJoined (map (λ list. list.items) l.first) (map (λ list. list.items) l.second)) l.place (map (λ list. list.items) l.lists.items)
