-- The lists of the objects so far.
use Rattle.std.proofs.Common.{[], map}
use Rattle.rw_columns.specs.inner.Filled.{AreAll}
use Rattle.rw_classes.specs.ClassLists.{number_lists}
use Rattle.rw_glue.specs.inner.Names.{ArePlaced}
use Rattle.rw_glue.proofs.names.placed_lists.Given as goal

abbrev pub invariant-loop-place : goal.invariant-loop-place
invariant-loop-place l = AreAll [] (ArePlaced l.left.names (number_lists l.classes) (map (λ list. list.items) l.names)) l.place (map (λ list. list.items) l.placed.items)
