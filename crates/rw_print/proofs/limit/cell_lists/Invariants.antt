use Rattle.std.proofs.Common.{◌≡◌, map, take}
use Rattle.serde_json.specs.View.{view}
use Rattle.rw_print.specs.Limits.{cells_data}
use Rattle.rw_print.proofs.limit.cell_lists.Given as goal

abbrev pub invariant-loop-place : goal.invariant-loop-place
invariant-loop-place l = map view l.values.items ≡ map cells_data (take l.place l.rows.cells)
