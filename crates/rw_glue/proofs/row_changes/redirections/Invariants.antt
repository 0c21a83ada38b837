-- The rows so far.
use Rattle.std.proofs.Common.{◌≡◌, take}
use Rattle.rw_columns.specs.Changes.{beside}
use Rattle.rw_local.specs.inner.ChangeTo.{other_values}
use Rattle.rw_glue.proofs.row_changes.redirections.Given as goal

abbrev pub invariant-loop-name : goal.invariant-loop-name
invariant-loop-name g l = l.row.items ≡ other_values ((g.P.Probe.instance l.probe).value l.arrow.0)
    (λ x. beside ((g.P.Probe.instance l.probe).value l.arrow.0 x) l.moved ((g.P.Probe.instance l.probe).value l.arrow.0 x)) (take l.name-index l.names)
