use Rattle.std.proofs.Common.{◌≡◌, map, take}
use Rattle.serde_json.specs.View.{view}
use Rattle.rw_print.specs.Lines.{tuple_data}
use Rattle.rw_print.proofs.matches.tuple_values.Given as goal

abbrev pub invariant-loop-tuple : goal.invariant-loop-tuple
invariant-loop-tuple l = map view l.values.items ≡ map tuple_data (take l.tuple-index l.tuples)
