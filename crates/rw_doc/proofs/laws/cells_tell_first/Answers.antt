-- The law is a fact about lists.
use Rattle.rw_doc.proofs.InstanceEntries.{cells_tell}
use Rattle.rw_doc.proofs.laws.cells_tell_first.Goals as goal

pub returns : goal.returns
returns c = cells_tell
