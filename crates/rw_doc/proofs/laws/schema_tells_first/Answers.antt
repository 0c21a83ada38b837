-- The law is a fact about readings in order.
use Rattle.rw_doc.proofs.SectionsInOrder.{schema_tells}
use Rattle.rw_doc.proofs.laws.schema_tells_first.Goals as goal

pub returns : goal.returns
returns c = schema_tells
