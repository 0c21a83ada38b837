-- The rows of the arrows so far.
use Rattle.std.proofs.Common.{[], map}
use Rattle.rw_columns.specs.inner.Filled.{AreAll}
use Rattle.rw_columns.specs.inner.Read.{IsRowIn}
use Rattle.rw_columns.proofs.read.read_rows.Given as goal

abbrev pub invariant-loop-place : goal.invariant-loop-place
invariant-loop-place g l =
    AreAll [] (IsRowIn l.columns (map (λ each. each.source.0) l.ends) (map (λ list. list.items) l.names)) l.place (map (λ list. list.items) l.rows.items)
