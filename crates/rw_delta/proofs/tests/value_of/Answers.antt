-- The name was found live.
use Rattle.std.proofs.Common.{sym}
use Rattle.rw_schema.specs.Signature.{source_of}
use Rattle.rw_columns.proofs.Columned.{live_has}
use Rattle.rw_delta.proofs.tests.value_of.Goals as goal

pub value-requires-clause-name : goal.value-requires-clause-name
value-requires-clause-name g c =
    let probe = c.args.probe.now in
    live_has (g.P.Probe.instance probe) (source_of (g.P.Probe.signature probe) c.args.arrow.0) c.args.source.0 c.args.name c.is_live.result (sym c.requires.leaves) c.is_live.ensures c.if-not-is_live.false
