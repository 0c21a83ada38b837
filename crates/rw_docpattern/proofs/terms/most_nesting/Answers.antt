-- The number is the definition's.
use Rattle.std.proofs.Common.{sym}
use Rattle.rw_docpattern.proofs.TermLevels.{nesting_is}
use Rattle.rw_docpattern.proofs.terms.most_nesting.Goals as goal

pub returns : goal.returns
returns c = sym nesting_is
