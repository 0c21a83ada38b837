-- The law is a fact about initial partial cocones.
use Rattle.rw_partial.proofs.OneSinglePushout.{one_single_pushout}
use Rattle.rw_partial.proofs.laws.has_one_single_pushout.Goals as goal

pub returns : goal.returns
returns c = one_single_pushout
