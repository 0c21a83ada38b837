-- The law is a fact about lists.
use Rattle.rw_doc.proofs.SchemaEntries.{objects_tell}
use Rattle.rw_doc.proofs.laws.objects_tell_first.Goals as goal

pub returns : goal.returns
returns c = objects_tell
