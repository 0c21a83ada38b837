-- The law is a fact about counts.
use Rattle.rw_copies.proofs.TooLarge.{one_too_large}
use Rattle.rw_copies.proofs.laws.has_one_too_large.Goals as goal

pub returns : goal.returns
returns c = one_too_large
