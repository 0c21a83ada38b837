-- The names that are redirected are there.
use Rattle.rw_columns.specs.Changes.{entry_names}
use Rattle.rw_glue.proofs.Redirected.{all_redirected}
use Rattle.rw_glue.proofs.row_changes.row_changes.Goals as goal

pub redirections-requires-clause-names : goal.redirections-requires-clause-names
redirections-requires-clause-names g c =
    rw (c.as_slice.ensures.value) (all_redirected (g.P.Probe.signature c.args.probe.now) (g.P.Probe.instance c.args.probe.now) c.args.arrow.0 c.args.removed.now (entry_names c.args.moved.now)
    c.in_ok-names.names.items c.in_ok-names.ensures)

pub returns : goal.returns
returns g c = record {
  some = c.in_ok-names.names.items;
  all = c.in_ok-names.ensures;
  differ = rw (c.as_slice.ensures.value) at c.in_ok-row.ensures;
}
