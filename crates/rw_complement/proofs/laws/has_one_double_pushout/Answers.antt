-- The law is a fact about double pushouts.
use Rattle.rw_complement.proofs.Named.{only_double_pushout}
use Rattle.rw_complement.proofs.laws.has_one_double_pushout.Goals as goal

pub returns : goal.returns
returns c = only_double_pushout
