-- The row so far is that of the classes so far.
use Rattle.std.proofs.Common.{◌≡◌, take}
use Rattle.rw_limits.specs.inner.Spans.{class_row}
use Rattle.rw_limits.proofs.class_rows.row_of.Given as goal

abbrev pub invariant-loop-first : goal.invariant-loop-first
invariant-loop-first l = l.row.items ≡ class_row l.left_row l.right_row l.left_targets l.right_targets l.numbers (take l.first-index l.firsts)
