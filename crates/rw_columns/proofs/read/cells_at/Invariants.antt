-- The cells at the names so far.
use Rattle.std.proofs.Common.{◌≡◌, None, map, take, slice_index_or}
use Rattle.rw_columns.proofs.read.cells_at.Given as goal

abbrev pub invariant-loop-name : goal.invariant-loop-name
invariant-loop-name g l = l.cells.items ≡ map (λ name. slice_index_or l.list name None) (take l.name-index l.names)
