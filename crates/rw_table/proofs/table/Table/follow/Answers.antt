-- Each number of a path is an arrow, and the lists have a row for each.
use Rattle.std.proofs.Common.{◌≡◌, ◌∙◌, length}
use Rattle.rw_schema.specs.Signature.{Signature}
use Rattle.rw_spec.specs.Instance.{follow}
use Rattle.rw_table.specs.inner.Along.{instance_along}
use Rattle.rw_table.proofs.Along.{follow_along, path_arrows, rows_of_arrows}
use Rattle.rw_table.proofs.Checked.{checked_known}
use Rattle.rw_table.proofs.table.Table.follow.Goals as goal

pub end_of-requires-clause-path : goal.end_of-requires-clause-path
end_of-requires-clause-path c =
    let table = c.self.inside in
    let C : Signature = record { objects = length table.rows.names; arrows = table.arrows.items; attributes = table.attributes.items; equations = table.equations.items } in
    let leads = rw (← c.self.view_is) at c.requires in
    rw (c.as_slice.ensures.value, c.arrows.ensures) (path_arrows C leads.0 c.args.path.now leads.1 leads.2)

pub end_of-requires-clause-rows : goal.end_of-requires-clause-rows
end_of-requires-clause-rows c =
    let table = c.self.inside in
    let C : Signature = record { objects = length table.rows.names; arrows = table.arrows.items; attributes = table.attributes.items; equations = table.equations.items } in
    rw c.as_slice.ensures.value (rows_of_arrows C table.rows c.self.invariant.0.0 (checked_known C table.rows c.self.invariant.1).shape)

pub returns : goal.returns
returns c =
    let table = c.self.inside in
    let C : Signature = record { objects = length table.rows.names; arrows = table.arrows.items; attributes = table.attributes.items; equations = table.equations.items } in
    let walked : c.end_of.result ≡ follow (instance_along table.arrows.items table.rows) c.args.path.now c.args.name = rw (← c.as_slice.ensures.value, ← c.arrows.ensures) c.end_of.ensures in
    rw (← c.self.view_is) (walked ∙ follow_along C table.rows c.args.path.now c.args.name)
