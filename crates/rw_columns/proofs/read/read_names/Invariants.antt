-- The names of the objects so far.
use Rattle.std.proofs.Common.{[], map}
use Rattle.rw_columns.specs.inner.Filled.{AreAll}
use Rattle.rw_columns.specs.inner.Read.{AreNamesIn}
use Rattle.rw_columns.proofs.read.read_names.Given as goal

abbrev pub invariant-loop-place : goal.invariant-loop-place
invariant-loop-place g l = AreAll [] (AreNamesIn l.columns) l.place (map (λ list. list.items) l.lists.items)
