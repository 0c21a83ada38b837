use Rattle.std.proofs.Common.{◌≡◌, map, take, length}
use Rattle.serde_json.specs.View.{view}
use Rattle.rw_print.specs.Lines.{count_data}
use Rattle.rw_print.proofs.limit.sizes_of.Given as goal

abbrev pub invariant-loop-place : goal.invariant-loop-place
invariant-loop-place l = map view l.values.items ≡ map count_data (map length (take l.place l.rows.names))
