-- The law is a fact about lists of copies.
use Rattle.rw_copies.proofs.OneContext.{copies_counted}
use Rattle.rw_copies.proofs.laws.copies_are_counted.Goals as goal

pub returns : goal.returns
returns c = copies_counted
