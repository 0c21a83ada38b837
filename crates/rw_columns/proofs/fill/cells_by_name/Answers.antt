-- The cell beside the next name is put at it.
use Rattle.std.proofs.Common.{◌∙◌, ◌<◌, None, length}
use Rattle.std.proofs.lemmas.List.{get_or_default}
use Rattle.rw_columns.proofs.Filled.{cells_put}
use Rattle.rw_columns.proofs.fill.cells_by_name.Goals as goal

pub loop-place-preserved : goal.loop-place-preserved
loop-place-preserved c =
    let place = c.loop-place.place in
    let cells = c.args.cells.now in
    let cell = c.index-cells-place.result in
    let within : place < length cells = rw c.requires.beside c.loop-place-test.true in
    cells_put place c.args.places c.args.names.now cells cell c.loop-place.list.items c.put_cell.new.list.items
    c.requires.names c.loop-place-test.true c.loop-place.invariant (c.index-cells-place.is ∙ get_or_default cells place cell None within) c.in_ok-put_cell.ensures
