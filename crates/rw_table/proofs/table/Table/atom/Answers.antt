-- A blank cell is looked up beside a name that is not there.
use Rattle.std.proofs.Common.{◌≡◌, ◌∙◌, None, sym, ap}
use Rattle.std.specs.Option.{option_map}
use Rattle.rw_schema.specs.RowLists.{list_at}
use Rattle.rw_schema.specs.Signature.{holder_of}
use Rattle.rw_spec.specs.Tabled.{cell_at}
use Rattle.rw_table.proofs.Places.{entry_none}
use Rattle.rw_table.proofs.table.Table.atom.Goals as goal

pub returns-in_err-cell : goal.returns-in_err-cell
returns-in_err-cell c =
    let table = c.args.self.now in
    let attribute = c.args.attribute.0 in
    let missing : None ≡ cell_at table attribute c.args.name = ap (option_map (λ cell. cell.now)) (sym c.in_err-cell.was) ∙ c.cell.ensures in
    ap (option_map (λ atom. atom.now)) c.from_residual.ensures
    ∙ entry_none None (list_at table.rows.names (holder_of table.signature attribute)) (list_at table.rows.cells attribute) c.args.name missing
