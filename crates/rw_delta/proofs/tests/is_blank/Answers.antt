-- The name was found live.
use Rattle.std.proofs.Common.{sym}
use Rattle.rw_schema.specs.Signature.{holder_of}
use Rattle.rw_columns.proofs.Columned.{live_has}
use Rattle.rw_delta.proofs.tests.is_blank.Goals as goal

pub cell-requires-clause-name : goal.cell-requires-clause-name
cell-requires-clause-name g c =
    let probe = c.args.probe.now in
    live_has (g.P.Probe.instance probe) (holder_of (g.P.Probe.signature probe) 0) c.args.holder.0 c.args.name c.is_live.result (sym c.requires.holder) c.is_live.ensures c.if-not-is_live.false
