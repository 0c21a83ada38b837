-- The law is a fact about lists.
use Rattle.rw_doc.proofs.SchemaEntries.{arrows_tell}
use Rattle.rw_doc.proofs.laws.arrows_tell_first.Goals as goal

pub returns : goal.returns
returns c = arrows_tell
