-- Lists of cells are compared head by head, before they are mapped or after.
use Rattle.std.proofs.Common.{◌∙◌, map}
use Rattle.std.proofs.lemmas.Slice.Eq.{slice_eq-Decides}
use Rattle.rw_schema.proofs.Lists.{pointwise_map}
use Rattle.rw_schema.proofs.Atoms.{is_same_cells, cells_decide}
use Rattle.rw_schema.proofs.cells.are_same_cell_lists.Goals as goal

pub returns : goal.returns
returns c =
    let same = pointwise_map is_same_cells (λ list. list.items) c.args.left.now c.args.right.now in
    slice_eq-Decides cells_decide (map (λ list. list.items) c.args.left.now) (map (λ list. list.items) c.args.right.now) c.eq.result (c.eq.ensures ∙ same)
