-- The columns keep the rows of the table.
use Rattle.std.proofs.Common.{◌≡◌, None, ap, subst, sym, ◌∙◌}
use Rattle.std.proofs.lemmas.Result.{IfOk-weaker}
use Rattle.rw_schema.specs.Presentation.{signature_of}
use Rattle.rw_schema.specs.RowLists.{RowLists}
use Rattle.rw_schema.specs.Signature.{Signature}
use Rattle.rw_table.specs.TableFaults.{table_fault}
use Rattle.rw_columns.specs.Columned.{Columned}
use Rattle.rw_columns.specs.Kept.{Keeps, lists_of_columns}
use Rattle.rw_columns.proofs.KeptLists.{kept_lists}
use Rattle.rw_app.proofs.world.columns_of.Goals as goal

-- columns that keep rows without a fault have these lists
kept_back : (C : Signature) (rows : RowLists) (columns : Columned) → table_fault C rows ≡ None → Keeps C rows columns → lists_of_columns columns ≡ rows
kept_back C rows columns sound keeps =
    sym (kept_lists rows columns (subst (λ (D : Signature). Keeps D rows columns) (sym keeps.signature) keeps) (subst (λ (D : Signature). table_fault D rows ≡ None) (sym keeps.signature) sound))

pub from_rows-requires : goal.from_rows-requires
from_rows-requires c = rw c.rows.ensures.value (rw c.requires at c.rows.ensures.sound)

pub returns-clause-over : goal.returns-clause-over
returns-clause-over c =
    IfOk-weaker c.from_rows.result (Keeps (signature_of c.args.schema.now) c.rows.result.now) (λ columns. columns.signature ≡ signature_of c.args.schema.now)
    (λ columns keeps. keeps.signature) c.from_rows.ensures

pub returns-clause-rows : goal.returns-clause-rows
returns-clause-rows c =
    let C = signature_of c.args.schema.now in
    let rows : RowLists = c.args.table.now.rows in
    let sound : table_fault C rows ≡ None = rw c.requires at c.rows.ensures.sound in
    IfOk-weaker c.from_rows.result (Keeps C c.rows.result.now) (λ columns. lists_of_columns columns ≡ rows)
    (λ columns keeps. kept_back C rows columns sound (subst (λ (rows : RowLists). Keeps C rows columns) c.rows.ensures.value keeps)) c.from_rows.ensures
