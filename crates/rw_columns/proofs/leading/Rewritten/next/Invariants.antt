-- The number stands beside the same names of what is left.
use Rattle.std.proofs.Common.{◌≡◌, length}
use Rattle.rw_columns.specs.Changes.{entry_names, entry_values}
use Rattle.rw_columns.specs.inner.Walks.{leading}
use Rattle.rw_columns.proofs.leading.Rewritten.next.Given as goal

abbrev pub invariant-loop-first : goal.invariant-loop-first
invariant-loop-first l = leading (entry_names l.initial.self-inside.rows.now) (entry_values l.initial.self-inside.rows.now) l.initial.self-inside.number
    ≡ leading (entry_names l.self-inside.rows.now) (entry_values l.self-inside.rows.now) l.self-inside.number

abbrev pub decreases-loop-first : goal.decreases-loop-first
decreases-loop-first l = length l.self-inside.rows.now
