-- The rows so far.
use Rattle.std.proofs.Common.{◌≡◌, map, take}
use Rattle.rw_docpattern.proofs.build.rows_of.Given as goal

abbrev pub invariant-loop-arrow : goal.invariant-loop-arrow
invariant-loop-arrow l = map (λ row. row.items) l.rows.items ≡ take l.arrow l.bare.rows
