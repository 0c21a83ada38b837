-- The names of the objects so far.
use Rattle.std.proofs.Common.{[], map}
use Rattle.rw_columns.specs.inner.Filled.{AreAll}
use Rattle.rw_glue.specs.inner.Changed.{AreRemoved}
use Rattle.rw_glue.proofs.removed.removed_lists.Given as goal

abbrev pub invariant-loop-place : goal.invariant-loop-place
invariant-loop-place l = AreAll [] (AreRemoved (map (λ list. list.items) l.gone) (map (λ list. list.items) l.moved)) l.place (map (λ list. list.items) l.lists.items)
