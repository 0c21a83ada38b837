-- The law is a fact about readings in order.
use Rattle.rw_docspan.proofs.FramesInOrder.{span_tells}
use Rattle.rw_docspan.proofs.laws.span_tells_first.Goals as goal

pub returns : goal.returns
returns c = span_tells
