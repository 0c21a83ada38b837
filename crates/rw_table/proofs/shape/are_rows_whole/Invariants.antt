-- All rows are whole exactly where those that are left are.
use Rattle.std.proofs.Common.{◌≡◌, drop, map}
use Rattle.rw_schema.specs.First.{all_in}
use Rattle.rw_schema.specs.Presentation.{ends_of_arrow}
use Rattle.rw_table.specs.TableFaults.{has_length}
use Rattle.rw_table.proofs.shape.are_rows_whole.Given as goal

abbrev pub invariant-loop-place : goal.invariant-loop-place
invariant-loop-place l = all_in (has_length l.rows) 0 (map ends_of_arrow l.arrows) ≡ all_in (has_length l.rows) l.place (map ends_of_arrow (drop l.place l.arrows))
