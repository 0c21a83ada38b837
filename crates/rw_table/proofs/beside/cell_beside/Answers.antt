-- The cell at the place of the name.
use Rattle.std.proofs.Common.{◌≡◌, ◌==◌, ◌∙◌, ◌<◌, length, get_or, position, None, Some, sym, ap, arith}
use Rattle.std.specs.Option.{option_map}
use Rattle.std.proofs.lemmas.List.{get_or_default}
use Rattle.std.proofs.lemmas.List.Quantifiers.{position-Some}
use Rattle.rw_table.proofs.Places.{entry_found, entry_missing}
use Rattle.rw_table.proofs.beside.cell_beside.Goals as goal

pub returns-in_err-position : goal.returns-in_err-position
returns-in_err-position c =
    ap (option_map (λ cell. cell.now)) c.from_residual.ensures ∙ entry_missing None c.args.names.now c.args.cells.now c.args.name (sym c.position_of.ensures ∙ c.in_err-position.was)

pub returns : goal.returns
returns c =
    let cells = c.args.cells.now in
    let place = c.in_ok-position.position in
    let cell = c.index-cells-position.result in
    let found : position (λ other. other == c.args.name) c.args.names.now ≡ Some place = sym c.position_of.ensures ∙ c.in_ok-position.was in
    let within : place < length c.args.names.now = (position-Some (λ other. other == c.args.name) c.args.names.now place 0 found).0 in
    let here : cell ≡ get_or cells place None = c.index-cells-position.is ∙ get_or_default cells place cell None (omega arith) in
    ap Some here ∙ entry_found None c.args.names.now cells c.args.name place found
