-- The cells of the names so far are blank.
use Rattle.std.proofs.Common.{◌≡◌, ◌<◌, None}
use Rattle.std.specs.Vec.{vec_capacity}
use Rattle.rw_columns.specs.inner.Written.{AreCellsWritten}
use Rattle.rw_columns.proofs.renew.blank_all.Given as goal

abbrev pub invariant-loop-name : goal.invariant-loop-name
invariant-loop-name l = record {
  written : AreCellsWritten (λ k. k < l.name-index) l.names (λ k. None) l.initial.list.items l.list.items;
  room : vec_capacity l.list ≡ vec_capacity l.initial.list;
}
