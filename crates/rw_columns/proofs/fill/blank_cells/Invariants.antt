-- The cells so far are blank.
use Rattle.std.proofs.Common.{◌≡◌, None, replicate}
use Rattle.rw_columns.proofs.fill.blank_cells.Given as goal

abbrev pub invariant-loop : goal.invariant-loop
invariant-loop l = l.list.items ≡ replicate l.counter None
