-- The law is a fact about final complements.
use Rattle.rw_copies.proofs.OneContext.{finals_isomorphic}
use Rattle.rw_copies.proofs.laws.final_complements_are_isomorphic.Goals as goal

pub returns : goal.returns
returns c = finals_isomorphic
