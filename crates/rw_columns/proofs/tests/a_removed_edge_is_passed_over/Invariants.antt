-- The ledger is the blank one.
use Rattle.rw_columns.proofs.tests.a_removed_edge_is_passed_over.Given as goal

abbrev pub ghosts-is_passed_over : goal.ghosts-is_passed_over
ghosts-is_passed_over g a = record { name = a.blank.name; parts = a.blank.parts }
