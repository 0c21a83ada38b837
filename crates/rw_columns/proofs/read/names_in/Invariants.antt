-- The names so far, and those that are left.
use Rattle.std.proofs.Common.{◌≡◌, ◌++◌, length}
use Rattle.rw_column.specs.Threads.{places_from}
use Rattle.rw_columns.proofs.read.names_in.Given as goal

abbrev pub invariant-loop-name : goal.invariant-loop-name
invariant-loop-name g l = l.names.items ++ l.walk ≡ places_from l.column.values 0 0

abbrev pub decreases-loop-name : goal.decreases-loop-name
decreases-loop-name g l = length l.walk
