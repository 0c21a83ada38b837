-- The law is a fact about readings in order.
use Rattle.rw_docspan.proofs.FramesInOrder.{cospan_tells}
use Rattle.rw_docspan.proofs.laws.cospan_tells_first.Goals as goal

pub returns : goal.returns
returns c = cospan_tells
