-- The laws are facts about tables of codes.
use Rattle.rw_docpattern.proofs.MapCodes.{map_tells, monic_tells}
use Rattle.rw_docpattern.proofs.laws.maps_tell_first.Goals as goal

pub returns-clause-map : goal.returns-clause-map
returns-clause-map c = map_tells

pub returns-clause-monic : goal.returns-clause-monic
returns-clause-monic c = monic_tells
