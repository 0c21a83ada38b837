-- The law is a fact about lists.
use Rattle.rw_doc.proofs.SchemaEntries.{attributes_tell}
use Rattle.rw_doc.proofs.laws.attributes_tell_first.Goals as goal

pub returns : goal.returns
returns c = attributes_tell
