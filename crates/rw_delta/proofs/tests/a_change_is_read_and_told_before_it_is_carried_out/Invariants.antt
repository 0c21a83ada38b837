-- The ledger is the blank one.
use Rattle.rw_delta.proofs.tests.a_change_is_read_and_told_before_it_is_carried_out.Given as goal

abbrev pub ghosts-is_read : goal.ghosts-is_read
ghosts-is_read g a = record { name = a.blank.name; parts = a.blank.parts }

abbrev pub ghosts-is_told : goal.ghosts-is_told
ghosts-is_told g a = record { name = a.blank.name; parts = a.blank.parts }
