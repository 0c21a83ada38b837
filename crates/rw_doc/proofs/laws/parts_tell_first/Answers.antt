-- The law is a fact about lists.
use Rattle.rw_doc.proofs.InstanceEntries.{parts_tell}
use Rattle.rw_doc.proofs.laws.parts_tell_first.Goals as goal

pub returns : goal.returns
returns c = parts_tell
