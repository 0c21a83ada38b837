-- The ledger is the blank one.
use Rattle.rw_dpo.proofs.tests.judge_rule.Given as goal

abbrev pub ghosts-judge_match : goal.ghosts-judge_match
ghosts-judge_match a = record { name = a.blank.name; parts = a.blank.parts }
