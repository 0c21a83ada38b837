-- The names of the object ascend, and the cells are beside them.
use Rattle.std.proofs.Common.{◌<◌, ◌≡◌, length, refl, Some, slice_get}
use Rattle.std.proofs.lemmas.Option.{slice_get_read}
use Rattle.rw_schema.specs.Signature.{Signature}
use Rattle.rw_table.proofs.Checked.{checked_known, names_ascend, cells_whole}
use Rattle.rw_table.proofs.table.Table.cell.Goals as goal

pub cell_beside-requires-clause-ascend : goal.cell_beside-requires-clause-ascend
cell_beside-requires-clause-ascend c =
    let table = c.self.inside in
    let C : Signature = record { objects = length table.rows.names; arrows = table.arrows.items; attributes = table.attributes.items; equations = table.equations.items } in
    rw c.names.ensures (names_ascend table.rows c.index.result.now.object.0 (checked_known C table.rows c.self.invariant.1).names)

pub cell_beside-requires-clause-beside : goal.cell_beside-requires-clause-beside
cell_beside-requires-clause-beside c =
    let table = c.self.inside in
    let C : Signature = record { objects = length table.rows.names; arrows = table.arrows.items; attributes = table.attributes.items; equations = table.equations.items } in
    let within : c.args.attribute.0 < length table.attributes.items = rw (← c.self.view_is) at c.requires in
    let there : slice_get table.attributes.items c.args.attribute.0 ≡ Some c.index.result.now =
    slice_get_read table.attributes.items (length table.attributes.items) c.args.attribute.0 c.index.result.now refl within c.index.ensures in
    rw (c.cells.ensures, c.names.ensures)
    (cells_whole C table.rows c.args.attribute.0 c.index.result.now (checked_known C table.rows c.self.invariant.1).shape there)
