-- The number stands beside the same names of what is left.
use Rattle.std.proofs.Common.{◌≡◌, length}
use Rattle.rw_columns.specs.inner.Walks.{leading}
use Rattle.rw_columns.proofs.leading.Added.next.Given as goal

abbrev pub invariant-loop-name : goal.invariant-loop-name
invariant-loop-name l = leading l.initial.self-inside.names.now l.initial.self-inside.images.now l.initial.self-inside.number
    ≡ leading l.self-inside.names.now l.self-inside.images.now l.self-inside.number

abbrev pub decreases-loop-name : goal.decreases-loop-name
decreases-loop-name l = length l.self-inside.names.now
