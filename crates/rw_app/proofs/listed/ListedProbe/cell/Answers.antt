-- The cell is that of the columns.
use Rattle.std.proofs.Common.{◌∙◌}
use Rattle.rw_app.proofs.ColumnLists.{cell_same, has_holder}
use Rattle.rw_app.proofs.listed.ListedProbe.cell.Goals as goal

pub cell-requires-clause-name : goal.cell-requires-clause-name
cell-requires-clause-name g c =
    has_holder c.args.self.now.columns.now c.known_columns.ensures.category c.known_columns.ensures.ascend c.args.attribute.0 c.args.name c.requires.attribute c.requires.name

pub returns-clause-cell : goal.returns-clause-cell
returns-clause-cell g c =
    let columns = c.args.self.now.columns.now in
    let category = c.known_columns.ensures.category in
    let has = has_holder columns category c.known_columns.ensures.ascend c.args.attribute.0 c.args.name c.requires.attribute c.requires.name in
    c.cell.ensures.cell ∙ cell_same columns category c.known_columns.ensures.ascend c.args.attribute.0 c.args.name c.requires.attribute has
