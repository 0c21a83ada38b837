-- The law is a fact about redexes.
use Rattle.rw_copies.proofs.OneContext.{one_context}
use Rattle.rw_copies.proofs.laws.has_one_copy_context.Goals as goal

pub returns : goal.returns
returns c = one_context
