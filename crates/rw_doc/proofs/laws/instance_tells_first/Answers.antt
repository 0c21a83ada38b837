-- The law is a fact about readings in order.
use Rattle.rw_doc.proofs.SectionsInOrder.{instance_tells}
use Rattle.rw_doc.proofs.laws.instance_tells_first.Goals as goal

pub returns : goal.returns
returns c = instance_tells
