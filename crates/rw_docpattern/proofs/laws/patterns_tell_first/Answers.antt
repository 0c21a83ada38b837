-- The laws are facts about tables of codes.
use Rattle.rw_docpattern.proofs.PatternCodes.{bare_tells, pattern_tells, right_tells}
use Rattle.rw_docpattern.proofs.laws.patterns_tell_first.Goals as goal

pub returns-clause-bare : goal.returns-clause-bare
returns-clause-bare c = bare_tells

pub returns-clause-pattern : goal.returns-clause-pattern
returns-clause-pattern c = pattern_tells

pub returns-clause-right : goal.returns-clause-right
returns-clause-right c = right_tells
