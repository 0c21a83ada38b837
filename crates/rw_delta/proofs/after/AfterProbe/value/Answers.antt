-- Where the arrow leads is a name of its target.
use Rattle.std.proofs.Common.{ap, subst, sym}
use Rattle.rw_columns.specs.ChangedColumns.{FitsColumns}
use Rattle.rw_spec.specs.Ends.{target_of}
use Rattle.rw_spec.specs.Instance.{Has}
use Rattle.rw_delta.specs.After.{ChangedColumns, instance_after}
use Rattle.rw_delta.proofs.Live.{leads_after}
use Rattle.rw_delta.proofs.after.AfterProbe.value.Goals as goal

pub returns-clause-within : goal.returns-clause-within
returns-clause-within g c =
    let columns = c.args.self.now.columns in
    let change = c.args.self.now.change in
    let fits = subst (λ (after : ChangedColumns). FitsColumns after.columns after.change) c.self.view_is c.self.invariant in
    let columns_are = ap (λ (after : ChangedColumns). after.columns) c.self.view_is in
    let change_is = ap (λ (after : ChangedColumns). after.change) c.self.view_is in
    let value = rw (columns_are, change_is) at c.value_after.ensures.value in
    subst (Has (instance_after columns change) (target_of columns.signature c.args.arrow.0)) (sym value)
    (leads_after columns change fits c.args.arrow.0 c.args.name c.requires.arrow c.requires.name)
