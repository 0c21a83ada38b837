-- The law is a fact about redexes.
use Rattle.rw_complement.proofs.OneContext.{one_context}
use Rattle.rw_complement.proofs.laws.has_one_context.Goals as goal

pub returns : goal.returns
returns c = one_context
