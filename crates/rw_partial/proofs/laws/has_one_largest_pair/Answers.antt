-- The law is a fact about fitting pairs.
use Rattle.rw_partial.proofs.OnePair.{one_pair}
use Rattle.rw_partial.proofs.laws.has_one_largest_pair.Goals as goal

pub returns : goal.returns
returns c = one_pair
