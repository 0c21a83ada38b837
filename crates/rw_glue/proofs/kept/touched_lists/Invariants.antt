-- The names of the objects so far.
use Rattle.std.proofs.Common.{[], map}
use Rattle.rw_columns.specs.inner.Filled.{AreAll}
use Rattle.rw_glue.specs.inner.Sides.{IsTouched}
use Rattle.rw_glue.proofs.kept.touched_lists.Given as goal

abbrev pub invariant-loop-object : goal.invariant-loop-object
invariant-loop-object l = AreAll [] (IsTouched l.images) l.object (map (λ list. list.items) l.lists.items)
