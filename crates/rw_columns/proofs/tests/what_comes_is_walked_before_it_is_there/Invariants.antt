-- The ledger is the blank one.
use Rattle.rw_columns.proofs.tests.what_comes_is_walked_before_it_is_there.Given as goal

abbrev pub ghosts-is_foreseen : goal.ghosts-is_foreseen
ghosts-is_foreseen g a = record { name = a.blank.name; parts = a.blank.parts }
