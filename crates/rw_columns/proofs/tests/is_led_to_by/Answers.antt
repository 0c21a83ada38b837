-- The name was found live.
use Rattle.rw_spec.specs.Ends.{target_of}
use Rattle.rw_columns.specs.Columned.{instance_of_columns}
use Rattle.rw_columns.proofs.Columned.{live_has}
use Rattle.rw_columns.proofs.tests.is_led_to_by.Goals as goal

pub preimage-walk-requires-clause-name : goal.preimage-walk-requires-clause-name
preimage-walk-requires-clause-name g c =
    let columns = c.args.columns.now in
    live_has (instance_of_columns columns) (target_of columns.signature c.args.arrow.0) c.target.result.0 c.args.name c.is_live.result c.target.ensures.target c.is_live.ensures c.if-not-is_live.false
