-- The ledger is the blank one.
use Rattle.rw_columns.proofs.tests.an_edge_is_removed.Given as goal

abbrev pub ghosts-is_read : goal.ghosts-is_read
ghosts-is_read g a = record { name = a.blank.name; parts = a.blank.parts }

abbrev pub ghosts-is_left : goal.ghosts-is_left
ghosts-is_left g a = record { name = a.blank.name; parts = a.blank.parts }
