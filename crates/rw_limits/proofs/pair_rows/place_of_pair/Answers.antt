-- What the search of the pairs finds is the place.
use Rattle.rw_limits.proofs.Lexicographic.{place_equal, place_missing}
use Rattle.rw_limits.proofs.pair_rows.place_of_pair.Goals as goal

pub returns-in-Ok : goal.returns-in-Ok
returns-in-Ok c = place_equal c.args.pairs.now c.args.pair.0 c.args.pair.1 c.in-Ok.place c.requires.ascend c.in-Ok.ensures.bound c.in-Ok.ensures.position

pub returns-in-Err : goal.returns-in-Err
returns-in-Err c = place_missing c.args.pairs.now c.args.pair.0 c.args.pair.1 c.in-Err.field-0 c.requires.ascend c.in-Err.ensures.position
