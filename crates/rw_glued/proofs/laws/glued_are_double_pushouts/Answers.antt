-- The law is a fact about redexes.
use Rattle.rw_glued.proofs.OneGluing.{double_pushouts}
use Rattle.rw_glued.proofs.laws.glued_are_double_pushouts.Goals as goal

pub returns : goal.returns
returns c = double_pushouts
