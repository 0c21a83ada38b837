-- The entries that are left are the first, and the others are written.
use Rattle.std.proofs.Common.{◌<◌, ◌≤◌, None, length, slice_index_or}
use Rattle.rw_columns.specs.Changes.{entry_names, entry_values}
use Rattle.rw_columns.specs.inner.Written.{AreCellsWritten, IsFront}
use Rattle.rw_columns.proofs.renew.write_list.Given as goal

abbrev pub invariant-loop-name : goal.invariant-loop-name
invariant-loop-name l = record {
  front : IsFront l.entries.items l.initial.entries.items;
  written : AreCellsWritten (λ k. (length l.entries.items ≤ k) × (k < length l.initial.entries.items)) (entry_names l.initial.entries.items)
      (λ k. slice_index_or (entry_values l.initial.entries.items) k None) l.initial.list.items l.list.items;
}

abbrev pub decreases-loop-name : goal.decreases-loop-name
decreases-loop-name l = length l.entries.items
