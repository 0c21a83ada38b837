-- The names of the objects so far.
use Rattle.std.proofs.Common.{[], map}
use Rattle.rw_columns.specs.inner.Filled.{AreAll}
use Rattle.rw_glue.specs.inner.Changed.{AreNewNames}
use Rattle.rw_glue.proofs.added.new_name_lists.Given as goal

abbrev pub invariant-loop-place : goal.invariant-loop-place
invariant-loop-place l = AreAll [] (AreNewNames l.rule (map (λ list. list.items) l.placed)) l.place (map (λ list. list.items) l.lists.items)
