-- The law is a fact about copyings.
use Rattle.rw_copies.proofs.OneContext.{copyings_final}
use Rattle.rw_copies.proofs.laws.copyings_are_final.Goals as goal

pub returns : goal.returns
returns c = copyings_final
