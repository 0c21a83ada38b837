-- The cells of the attributes so far.
use Rattle.std.proofs.Common.{[], map}
use Rattle.rw_columns.specs.inner.Filled.{AreAll}
use Rattle.rw_schema.specs.Presentation.{ends_of_attribute}
use Rattle.rw_glue.specs.inner.Changed.{AreNewCells}
use Rattle.rw_glue.proofs.added.new_cell_lists.Given as goal

abbrev pub invariant-loop-place : goal.invariant-loop-place
invariant-loop-place l = AreAll [] (AreNewCells (map ends_of_attribute l.attributes) l.rule l.right.cells) l.place (map (λ list. list.items) l.lists.items)
