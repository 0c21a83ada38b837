-- The name was found live.
use Rattle.rw_schema.specs.Signature.{holder_of}
use Rattle.rw_columns.specs.Columned.{instance_of_columns}
use Rattle.rw_columns.proofs.Columned.{live_has}
use Rattle.rw_columns.proofs.tests.has_weight.Goals as goal

pub cell-requires-clause-name : goal.cell-requires-clause-name
cell-requires-clause-name g c =
    let columns = c.args.columns.now in
    live_has (instance_of_columns columns) (holder_of columns.signature 0) c.holder.result.0 c.args.name c.is_live.result c.holder.ensures.holder c.is_live.ensures c.if-not-is_live.false
