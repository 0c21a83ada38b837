-- The law is a fact about frames.
use Rattle.rw_glued.proofs.OneGluing.{one_gluing}
use Rattle.rw_glued.proofs.laws.has_one_gluing.Goals as goal

pub returns : goal.returns
returns c = one_gluing
