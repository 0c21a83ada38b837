-- The names so far have the number 0.
use Rattle.rw_columns.specs.inner.Filled.{IsFilledTo}
use Rattle.rw_columns.proofs.fill.column_of_names.Given as goal

abbrev pub invariant-loop-name : goal.invariant-loop-name
invariant-loop-name l = IsFilledTo l.name-index l.places 1 l.names (λ k. 0) l.live
