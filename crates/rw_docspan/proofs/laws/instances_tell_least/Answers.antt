-- The law is a fact about what is written.
use Rattle.rw_docspan.proofs.PieceEntries.{instances_tell}
use Rattle.rw_docspan.proofs.laws.instances_tell_least.Goals as goal

pub returns : goal.returns
returns c = instances_tell
