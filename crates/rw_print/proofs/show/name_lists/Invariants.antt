use Rattle.std.proofs.Common.{◌≡◌, map, take}
use Rattle.serde_json.specs.View.{view}
use Rattle.rw_print.specs.Lines.{tuple_data}
use Rattle.rw_print.proofs.show.name_lists.Given as goal

abbrev pub invariant-loop-place : goal.invariant-loop-place
invariant-loop-place l = map view l.values.items ≡ map tuple_data (take l.place l.rows.names)
