-- The attribute has a cell at each name of its object.
use Rattle.rw_columns.proofs.Columned.{cell_place}
use Rattle.rw_columns.proofs.columns.Columns.cell.Goals as goal

pub cell_at-requires : goal.cell_at-requires
cell_at-requires g c =
    rw c.cells.ensures.cells (cell_place c.args.self.now c.cells.ensures.sound c.args.attribute.0 c.requires.attribute c.args.name c.requires.name)
