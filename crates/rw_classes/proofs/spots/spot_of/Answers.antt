-- The place of a name is its spot, and the spot of a name that has none is the number of names.
use Rattle.rw_classes.proofs.Searched.{spot_placed, spot_nowhere}
use Rattle.rw_classes.proofs.spots.spot_of.Goals as goal

pub returns-in-Some-clause-value : goal.returns-in-Some-clause-value
returns-in-Some-clause-value c = spot_placed c.args.names.now c.args.name c.in-Some.place c.in-Some.ensures

pub returns-in-None-clause-value : goal.returns-in-None-clause-value
returns-in-None-clause-value c = spot_nowhere c.args.names.now c.args.name c.in-None.ensures
