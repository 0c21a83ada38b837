-- The ledger is the blank one.
use Rattle.rw_steps.proofs.steps.tests.is_made_from_a_blank.Given as goal

abbrev pub ghosts-same_from : goal.ghosts-same_from
ghosts-same_from g a = record { name = a.blank.name; parts = a.blank.parts }
