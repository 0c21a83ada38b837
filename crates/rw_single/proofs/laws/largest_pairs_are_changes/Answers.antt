-- The law is a fact about largest pairs.
use Rattle.rw_single.proofs.Single.{pairs_are_changes}
use Rattle.rw_single.proofs.laws.largest_pairs_are_changes.Goals as goal

pub returns : goal.returns
returns c = pairs_are_changes
