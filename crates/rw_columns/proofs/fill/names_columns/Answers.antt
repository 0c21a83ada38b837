-- One column more, for one object more.
use Rattle.std.proofs.Common.{arith}
use Rattle.rw_columns.specs.Columned.{no_column}
use Rattle.rw_columns.specs.inner.Filled.{IsNamesColumn}
use Rattle.rw_columns.proofs.Filled.{all_more}
use Rattle.rw_columns.proofs.fill.names_columns.Goals as goal

pub loop-place-preserved : goal.loop-place-preserved
loop-place-preserved c =
    all_more no_column (IsNamesColumn c.args.rows.now) c.loop-place.place c.loop-place.columns.items c.push.new.self.items c.in_ok-names_column.field-0
    (grind arith) c.loop-place.invariant c.in_ok-names_column.ensures
