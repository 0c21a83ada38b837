-- The names of the objects so far.
use Rattle.std.proofs.Common.{[], map}
use Rattle.rw_columns.specs.inner.Filled.{AreAll}
use Rattle.rw_classes.specs.ClassLists.{first_lists}
use Rattle.rw_glue.specs.inner.Names.{AreClassNames}
use Rattle.rw_glue.proofs.names.name_lists.Given as goal

abbrev pub invariant-loop-place : goal.invariant-loop-place
invariant-loop-place l = AreAll [] (AreClassNames l.rule l.next l.left.names (first_lists l.classes)) l.place (map (λ list. list.items) l.names.items)
