-- One column more, for one arrow more.
use Rattle.std.proofs.Common.{arith}
use Rattle.rw_schema.specs.Presentation.{signature_of}
use Rattle.rw_columns.specs.Columned.{no_column}
use Rattle.rw_columns.specs.inner.Filled.{IsArrowColumn}
use Rattle.rw_columns.proofs.Filled.{all_more}
use Rattle.rw_columns.proofs.fill.arrow_columns.Goals as goal

pub loop-place-preserved : goal.loop-place-preserved
loop-place-preserved c =
    all_more no_column (IsArrowColumn (signature_of c.args.schema.now) c.args.rows.now) c.loop-place.place c.loop-place.columns.items c.push.new.self.items
    c.in_ok-arrow_column.field-0 (grind arith) c.loop-place.invariant c.in_ok-arrow_column.ensures
