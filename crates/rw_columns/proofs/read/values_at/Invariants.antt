-- The numbers at the names so far.
use Rattle.std.proofs.Common.{◌≡◌, map, take, slice_index}
use Rattle.rw_columns.proofs.read.values_at.Given as goal

abbrev pub invariant-loop-name : goal.invariant-loop-name
invariant-loop-name g l = l.row.items ≡ map (slice_index l.column.values) (take l.name-index l.names)
