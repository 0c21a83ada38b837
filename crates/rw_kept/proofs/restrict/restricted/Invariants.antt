-- The names at the places so far.
use Rattle.std.proofs.Common.{◌≡◌, map, take, slice_index}
use Rattle.rw_kept.proofs.restrict.restricted.Given as goal

abbrev pub invariant-loop-place : goal.invariant-loop-place
invariant-loop-place l = l.found.items ≡ map (slice_index l.names) (take l.place-index l.places)
