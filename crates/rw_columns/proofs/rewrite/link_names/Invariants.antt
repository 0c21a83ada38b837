-- The names so far are done.
use Rattle.std.proofs.Common.{◌<◌}
use Rattle.rw_columns.specs.inner.Written.{IsColumnWritten}
use Rattle.rw_columns.proofs.rewrite.link_names.Given as goal

abbrev pub invariant-loop-name : goal.invariant-loop-name
invariant-loop-name l = IsColumnWritten (λ k. k < l.name-index) l.names (λ k. 0) l.initial.column l.column
