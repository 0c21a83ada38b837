-- The law is a fact about kept sets.
use Rattle.rw_copies.proofs.OneContext.{kept_contexts}
use Rattle.rw_copies.proofs.laws.largest_kept_is_context.Goals as goal

pub returns : goal.returns
returns c = kept_contexts
