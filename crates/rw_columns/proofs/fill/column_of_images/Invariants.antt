-- The names so far have the images beside them.
use Rattle.std.proofs.Common.{slice_index}
use Rattle.rw_columns.specs.inner.Filled.{IsFilledTo}
use Rattle.rw_columns.proofs.fill.column_of_images.Given as goal

abbrev pub invariant-loop-place : goal.invariant-loop-place
invariant-loop-place l = IsFilledTo l.place l.sources l.targets l.names (slice_index l.images) l.column
