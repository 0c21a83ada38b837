-- The cells of the attributes so far.
use Rattle.std.proofs.Common.{[], map}
use Rattle.rw_columns.specs.inner.Filled.{AreAll}
use Rattle.rw_classes.specs.ClassLists.{number_lists}
use Rattle.rw_glue.specs.inner.Changed.{AreCellChanges}
use Rattle.rw_glue.proofs.cell_changes.cell_lists.Given as goal

abbrev pub invariant-loop-place : goal.invariant-loop-place
invariant-loop-place g l = AreAll [] (AreCellChanges (g.P.Probe.signature l.probe) (g.P.Probe.instance l.probe) l.left l.right (number_lists l.classes) l.merged (map (λ list. list.items) l.moved)) l.place (map (λ list. list.items) l.lists.items)
