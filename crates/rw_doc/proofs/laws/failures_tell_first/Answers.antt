-- The law is a fact about lists.
use Rattle.rw_doc.proofs.InstanceEntries.{failures_first}
use Rattle.rw_doc.proofs.laws.failures_tell_first.Goals as goal

pub returns : goal.returns
returns c = failures_first
