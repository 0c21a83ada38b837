-- The names of the source ascend, and the row is beside them.
use Rattle.std.proofs.Common.{◌<◌, ◌≡◌, length, refl, Some, slice_get, IfSome, sym, subst, arith}
use Rattle.std.proofs.lemmas.Grind.{common_steps}
use Rattle.rw_spec.specs.Instance.{Has}
use Rattle.rw_spec.specs.Tabled.{value_at, instance_of_table}
use Rattle.rw_table.proofs.TableInstance.{value_within}
use Rattle.std.proofs.lemmas.Option.{slice_get_read}
use Rattle.rw_schema.specs.Signature.{Signature}
use Rattle.rw_table.proofs.Checked.{checked_known, names_ascend, row_whole}
use Rattle.rw_table.proofs.table.Table.value.Goals as goal

pub entry_beside-requires-clause-ascend : goal.entry_beside-requires-clause-ascend
entry_beside-requires-clause-ascend c =
    let table = c.self.inside in
    let C : Signature = record { objects = length table.rows.names; arrows = table.arrows.items; attributes = table.attributes.items; equations = table.equations.items } in
    rw c.names.ensures (names_ascend table.rows c.index.result.now.source.0 (checked_known C table.rows c.self.invariant.1).names)

pub entry_beside-requires-clause-beside : goal.entry_beside-requires-clause-beside
entry_beside-requires-clause-beside c =
    let table = c.self.inside in
    let C : Signature = record { objects = length table.rows.names; arrows = table.arrows.items; attributes = table.attributes.items; equations = table.equations.items } in
    let within : c.args.arrow.0 < length table.arrows.items = rw (← c.self.view_is) at c.requires in
    let there : slice_get table.arrows.items c.args.arrow.0 ≡ Some c.index.result.now =
    slice_get_read table.arrows.items (length table.arrows.items) c.args.arrow.0 c.index.result.now refl within c.index.ensures in
    rw (c.row.ensures, c.names.ensures)
    (row_whole C table.rows c.args.arrow.0 c.index.result.now (checked_known C table.rows c.self.invariant.1).shape there)

pub returns-clause-within : goal.returns-clause-within
returns-clause-within c =
    let same : c.entry_beside.result ≡ value_at c.args.self.now c.args.arrow.0 c.args.name = grind (arith, common_steps) in
    λ ends there. subst (λ found. IfSome found (Has (instance_of_table c.args.self.now) ends.target.0)) (sym same) (value_within c.args.self.now c.args.arrow.0 c.args.name ends (rw (← c.self.view_is) c.self.invariant.1) there)
