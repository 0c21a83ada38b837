-- The rows of the arrows so far.
use Rattle.std.proofs.Common.{[], map}
use Rattle.rw_columns.specs.inner.Filled.{AreAll}
use Rattle.rw_schema.specs.Presentation.{ends_of_arrow}
use Rattle.rw_glue.specs.inner.Changed.{AreNewRows}
use Rattle.rw_glue.proofs.added.new_row_lists.Given as goal

abbrev pub invariant-loop-place : goal.invariant-loop-place
invariant-loop-place l = AreAll [] (AreNewRows (map ends_of_arrow l.arrows) l.rule (map (λ list. list.items) l.placed)) l.place (map (λ list. list.items) l.lists.items)
