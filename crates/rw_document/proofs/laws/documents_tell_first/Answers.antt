-- The law is a fact about readings.
use Rattle.rw_document.proofs.DocumentCodes.{document_tells}
use Rattle.rw_document.proofs.laws.documents_tell_first.Goals as goal

pub returns : goal.returns
returns c = document_tells
