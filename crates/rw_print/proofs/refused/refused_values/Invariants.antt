use Rattle.std.proofs.Common.{◌≡◌, map, take}
use Rattle.serde_json.specs.View.{view}
use Rattle.rw_print.specs.Lines.{refused_data}
use Rattle.rw_print.proofs.refused.refused_values.Given as goal

abbrev pub invariant-loop-tuple : goal.invariant-loop-tuple
invariant-loop-tuple l = map view l.values.items ≡ map (refused_data l.schema) (take l.tuple-index l.refused)
