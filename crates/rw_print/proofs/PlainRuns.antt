-- The values of the lines of shown instances and of samples have no floats.
use Rattle.std.proofs.Common.{◌≡◌, ℕ, false, List, map, refl}
use Rattle.serde_json.specs.Written.{has_float}
use Rattle.rw_schema.specs.RowLists.{RowLists}
use Rattle.rw_print.specs.Limits.{cells_data}
use Rattle.rw_print.specs.Lines.{list_data}
use Rattle.rw_print.specs.RunLines.{show_data, sample_data}
use Rattle.rw_print.proofs.Plain.{no_float_in, no_float_in_counts, no_float_in_tuples}
use Rattle.rw_print.proofs.PlainLimits.{no_float_in_cells}

-- the line of an instance has no float
pub no_float_in_show : (place : ℕ) (rows : RowLists) → has_float (show_data place rows) ≡ false
no_float_in_show place rows =
    let in_cells : has_float (list_data (map cells_data rows.cells)) ≡ false = no_float_in cells_data rows.cells no_float_in_cells in
    rw (in_cells, no_float_in_tuples rows.names, no_float_in_counts rows.next, no_float_in_tuples rows.arrows) refl

-- the line of a sample has no float
pub no_float_in_sample : (applied gone new : ℕ) (lists sizes : List ℕ) → has_float (sample_data applied gone new lists sizes) ≡ false
no_float_in_sample applied gone new lists sizes = rw (no_float_in_counts lists, no_float_in_counts sizes) refl
