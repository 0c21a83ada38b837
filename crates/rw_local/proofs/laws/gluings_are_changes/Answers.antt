-- The law is a fact about frames.
use Rattle.rw_local.proofs.EachKind.{change_or_no_cocone}
use Rattle.rw_local.proofs.laws.gluings_are_changes.Goals as goal

pub returns : goal.returns
returns c = change_or_no_cocone
