-- The cells so far.
use Rattle.std.proofs.Common.{◌≡◌, None, map, slice_index_or, take}
use Rattle.rw_glue.proofs.added.cells_at.Given as goal

abbrev pub invariant-loop-place : goal.invariant-loop-place
invariant-loop-place l = l.list.items ≡ map (λ place. slice_index_or l.cells place None) (take l.place-index l.places)
