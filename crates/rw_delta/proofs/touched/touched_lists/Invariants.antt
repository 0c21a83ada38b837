-- The lists of the objects so far.
use Rattle.std.proofs.Common.{[], map}
use Rattle.rw_columns.specs.inner.Filled.{AreAll}
use Rattle.rw_delta.specs.inner.Gathered.{AreTouched}
use Rattle.rw_delta.proofs.touched.touched_lists.Given as goal

abbrev pub invariant-loop-object : goal.invariant-loop-object
invariant-loop-object l =
    AreAll [] (AreTouched (map (λ each. each.source.0) l.arrows) (map (λ list. list.items) l.rows) (map (λ each. each.object.0) l.attributes) (map (λ list. list.items) l.cells))
    l.object (map (λ list. list.items) l.lists.items)
