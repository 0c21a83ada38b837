-- The law is a fact about lists.
use Rattle.rw_doc.proofs.InstanceEntries.{rows_tell}
use Rattle.rw_doc.proofs.laws.rows_tell_first.Goals as goal

pub returns : goal.returns
returns c = rows_tell
