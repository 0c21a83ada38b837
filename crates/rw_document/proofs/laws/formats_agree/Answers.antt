-- The law is a fact about readings.
use Rattle.rw_document.proofs.Formats.{formats_agree}
use Rattle.rw_document.proofs.laws.formats_agree.Goals as goal

pub returns : goal.returns
returns c = formats_agree
