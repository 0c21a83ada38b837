-- The ledger is the blank one.
use Rattle.rw_column.proofs.tests.walks.Given as goal

abbrev pub ghosts-walked : goal.ghosts-walked
ghosts-walked a = record { name = a.blank.name; parts = a.blank.parts }
