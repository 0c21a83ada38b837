-- The names so far.
use Rattle.std.proofs.Common.{◌≡◌, ◌++◌, take}
use Rattle.rw_columns.specs.Changes.{entry_names}
use Rattle.rw_glue.proofs.removed.append_names.Given as goal

abbrev pub invariant-loop-entry : goal.invariant-loop-entry
invariant-loop-entry l = l.names.items ≡ l.initial.names.items ++ entry_names (take l.entry-index l.entries)
