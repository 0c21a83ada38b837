-- The values of the lines of pushouts and pullbacks have no floats.
use Rattle.std.proofs.Common.{◌≡◌, ℕ, false, Option, List, map, length, refl}
use Rattle.serde_json.specs.Written.{has_float}
use Rattle.rw_schema.specs.declared.atom.Atom.{Atom}
use Rattle.rw_schema.specs.declared.ids.AttrId.{AttrId}
use Rattle.rw_schema.specs.declared.ids.ObjectId.{ObjectId}
use Rattle.rw_schema.specs.Presentation.{Presentation}
use Rattle.rw_schema.specs.RowLists.{RowLists}
use Rattle.rw_print.specs.Limits.{cells_data, limit_data, clash_data}
use Rattle.rw_print.specs.Atoms.{cell_data}
use Rattle.rw_print.specs.Lines.{list_data}
use Rattle.rw_print.proofs.PlainAtoms.{no_float_in_atom, no_float_in_cell}
use Rattle.rw_print.proofs.Plain.{no_float_in, no_float_in_counts, no_float_in_tuples}

-- the cells of an attribute have no float
pub no_float_in_cells : (cells : List (Option Atom)) → has_float (cells_data cells) ≡ false
no_float_in_cells cells = no_float_in cell_data cells no_float_in_cell

-- the line of a limit has no float
pub no_float_in_limit : (rows : RowLists) (left right : List (List ℕ)) → has_float (limit_data rows left right) ≡ false
no_float_in_limit rows left right =
    let in_cells : has_float (list_data (map cells_data rows.cells)) ≡ false = no_float_in cells_data rows.cells no_float_in_cells in
    rw (in_cells, no_float_in_tuples left, no_float_in_tuples right, no_float_in_tuples rows.arrows, no_float_in_counts (map length rows.names)) refl

-- the line of a clash has no float
pub no_float_in_clash : (schema : Presentation) (id : ObjectId) (part : ℕ) (attr : AttrId) (first second : Atom)
    → has_float (clash_data schema id part attr first second) ≡ false
no_float_in_clash schema id part attr first second = rw (no_float_in_atom first, no_float_in_atom second) refl
