-- The names of the attributes so far.
use Rattle.std.proofs.Common.{map}
use Rattle.rw_delta.specs.inner.Gathered.{IsGathered}
use Rattle.rw_delta.proofs.touched.gather_cells.Given as goal

abbrev pub invariant-loop-place : goal.invariant-loop-place
invariant-loop-place l =
    IsGathered (map (λ each. each.object.0) l.attributes) (map (λ list. list.items) l.cells) l.object l.place l.initial.names.items l.names.items
