-- Lists have no fault exactly where they are a table.
use Rattle.std.proofs.Common.{◌≡◌, ℕ, ◌<◌, None, length, subst}
use Rattle.rw_schema.specs.RowLists.{RowLists}
use Rattle.rw_schema.specs.Signature.{Signature, IsCategory}
use Rattle.rw_table.specs.TableFaults.{table_fault}
use Rattle.rw_table.specs.Unfaulted.{IsTable, UnfaultedAreTables}
use Rattle.rw_table.proofs.Checked.{checked_known, shape_known}
use Rattle.rw_table.proofs.Sound.{names_below, names_unfaulted, sound_from_instance}
use Rattle.rw_table.proofs.TableInstance.{table_instance}

-- lists without a fault are a table
table_from_none : (C : Signature) (rows : RowLists) → IsCategory C → table_fault C rows ≡ None → IsTable C rows
table_from_none C rows category none =
    let checked = checked_known C rows none in
    record {
      shape = checked.shape;
      names = λ object known. names_below C rows object checked.shape checked.names known;
      instance = table_instance C rows none;
    }

-- a table has no fault
none_from_table : (C : Signature) (rows : RowLists) → IsCategory C → IsTable C rows → table_fault C rows ≡ None
none_from_table C rows category is =
    let long : length rows.names ≡ C.objects = (shape_known C rows is.shape).names in
    sound_from_instance C rows category is.shape
    (names_unfaulted rows (λ object within. is.names object (subst (λ (n : ℕ). object < n) long within))) is.instance

-- so the two are one
pub unfaulted_tables : UnfaultedAreTables
unfaulted_tables C category rows = (table_from_none C rows category, none_from_table C rows category)
