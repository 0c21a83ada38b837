-- The laws are facts about tables of codes.
use Rattle.rw_docrule.proofs.RuleCodes.{rule_tells}
use Rattle.rw_docrule.proofs.RulesCodes.{rules_tell}
use Rattle.rw_docrule.proofs.laws.rules_tell_first.Goals as goal

pub returns-clause-rule : goal.returns-clause-rule
returns-clause-rule c = rule_tells

pub returns-clause-list : goal.returns-clause-list
returns-clause-list c = rules_tell
