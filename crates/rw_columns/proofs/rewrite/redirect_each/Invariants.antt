-- The names so far are done.
use Rattle.std.proofs.Common.{◌<◌, slice_index}
use Rattle.rw_columns.specs.Changes.{entry_names, entry_values}
use Rattle.rw_columns.specs.inner.Written.{IsColumnWritten}
use Rattle.rw_columns.proofs.rewrite.redirect_each.Given as goal

abbrev pub invariant-loop-name : goal.invariant-loop-name
invariant-loop-name l = IsColumnWritten (λ k. k < l.name-index) (entry_names l.rows) (slice_index (entry_values l.rows)) l.initial.column l.column
