-- The lists of the objects so far.
use Rattle.std.proofs.Common.{[], map}
use Rattle.rw_columns.specs.inner.Filled.{AreAll}
use Rattle.rw_classes.specs.ClassLists.{number_lists}
use Rattle.rw_glue.specs.inner.Names.{AreMoved}
use Rattle.rw_glue.proofs.names.moved_lists.Given as goal

abbrev pub invariant-loop-place : goal.invariant-loop-place
invariant-loop-place l = AreAll [] (AreMoved l.left.names (number_lists l.classes) (map (λ list. list.items) l.names)) l.place (map (λ list. list.items) l.moved.items)
