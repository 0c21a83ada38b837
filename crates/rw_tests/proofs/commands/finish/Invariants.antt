-- The ledger is the blank one, and the operations so far are the first ones.
use Rattle.std.proofs.Common.{◌≡◌, take}
use Rattle.rw_app.specs.Operations.{usual_operations}
use Rattle.rw_terms.specs.OpEntries.{entries}
use Rattle.rw_tests.proofs.commands.finish.Given as goal

abbrev pub ghosts-run : goal.ghosts-run
ghosts-run a = record { name = a.blank.name; parts = a.blank.parts }

abbrev pub invariant-loop-name : goal.invariant-loop-name
invariant-loop-name l = entries l.ops ≡ take l.name-index usual_operations
