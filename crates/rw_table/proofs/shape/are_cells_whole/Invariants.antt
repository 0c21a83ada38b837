-- All attributes have whole cells exactly where those that are left do.
use Rattle.std.proofs.Common.{◌≡◌, drop, map}
use Rattle.rw_schema.specs.First.{all_in}
use Rattle.rw_schema.specs.Presentation.{ends_of_attribute}
use Rattle.rw_table.specs.TableFaults.{has_cells}
use Rattle.rw_table.proofs.shape.are_cells_whole.Given as goal

abbrev pub invariant-loop-place : goal.invariant-loop-place
invariant-loop-place l = all_in (has_cells l.rows) 0 (map ends_of_attribute l.attributes) ≡ all_in (has_cells l.rows) l.place (map ends_of_attribute (drop l.place l.attributes))
