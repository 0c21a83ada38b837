-- The names so far are done.
use Rattle.std.proofs.Common.{◌<◌, slice_index}
use Rattle.rw_columns.specs.inner.Written.{IsColumnWritten}
use Rattle.rw_columns.proofs.rewrite.link_all.Given as goal

abbrev pub invariant-loop-place : goal.invariant-loop-place
invariant-loop-place l = IsColumnWritten (λ k. k < l.place) l.names (slice_index l.images) l.initial.column l.column
