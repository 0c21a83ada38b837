use Rattle.std.proofs.Common.{◌≡◌, map, take}
use Rattle.serde_json.specs.View.{view}
use Rattle.rw_print.specs.Lines.{count_data}
use Rattle.rw_print.proofs.show.next_names.Given as goal

abbrev pub invariant-loop-place : goal.invariant-loop-place
invariant-loop-place l = map view l.values.items ≡ map count_data (take l.place l.rows.next)
