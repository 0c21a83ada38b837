-- The cells so far are those of the attributes so far.
use Rattle.std.proofs.Common.{◌≡◌, map, take}
use Rattle.rw_schema.specs.First.{map_in}
use Rattle.rw_limits.specs.inner.ClassTables.{merged_cells}
use Rattle.rw_classes.specs.Clashes.{both_cells}
use Rattle.rw_limits.proofs.class_cells.class_cells.Given as goal

abbrev pub invariant-loop-place : goal.invariant-loop-place
invariant-loop-place l = map (λ list. list.items) l.cells.items ≡ map_in (λ c each. merged_cells (both_cells l.left l.right c) each) 0 (take l.place l.merged)
