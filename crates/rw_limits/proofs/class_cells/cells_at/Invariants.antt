-- The cells so far are those of the classes so far.
use Rattle.std.proofs.Common.{◌≡◌, ◌++◌, map, take}
use Rattle.rw_limits.specs.inner.ClassTables.{first_cell}
use Rattle.rw_limits.proofs.class_cells.cells_at.Given as goal

abbrev pub invariant-loop-first : goal.invariant-loop-first
invariant-loop-first l = l.cells.items ≡ map (first_cell (l.left ++ l.right)) (take l.first-index l.firsts)
