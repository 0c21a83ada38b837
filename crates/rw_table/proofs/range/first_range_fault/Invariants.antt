-- The first fault of all is the first of what is left.
use Rattle.std.proofs.Common.{◌≡◌, drop, map}
use Rattle.rw_schema.specs.First.{first_in}
use Rattle.rw_schema.specs.Presentation.{ends_of_arrow}
use Rattle.rw_table.specs.TableFaults.{row_fault}
use Rattle.rw_table.proofs.range.first_range_fault.Given as goal

abbrev pub invariant-loop-place : goal.invariant-loop-place
invariant-loop-place l = first_in (row_fault l.rows) 0 (map ends_of_arrow l.arrows) ≡ first_in (row_fault l.rows) l.place (map ends_of_arrow (drop l.place l.arrows))
