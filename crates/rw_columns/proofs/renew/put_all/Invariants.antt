-- The cells that are left are the first, and the others are put at their names.
use Rattle.std.proofs.Common.{◌<◌, ◌≤◌, None, length, slice_index_or}
use Rattle.rw_columns.specs.inner.Written.{AreCellsWritten, IsFront}
use Rattle.rw_columns.proofs.renew.put_all.Given as goal

abbrev pub invariant-loop-cell : goal.invariant-loop-cell
invariant-loop-cell l = record {
  front : IsFront l.cells.items l.initial.cells.items;
  written : AreCellsWritten (λ k. (length l.cells.items ≤ k) × (k < length l.names)) l.names (λ k. slice_index_or l.initial.cells.items k None)
      l.initial.list.items l.list.items;
}

abbrev pub decreases-loop-cell : goal.decreases-loop-cell
decreases-loop-cell l = length l.cells.items
