-- The law is a fact about lists.
use Rattle.rw_doc.proofs.SchemaEntries.{equations_tell}
use Rattle.rw_doc.proofs.laws.equations_tell_first.Goals as goal

pub returns : goal.returns
returns c = equations_tell
