-- The entry at the place of the name.
use Rattle.std.proofs.Common.{◌∙◌, sym}
use Rattle.rw_table.proofs.Places.{entry_found, entry_missing}
use Rattle.rw_table.proofs.beside.entry_beside.Goals as goal

pub returns-in_err-position : goal.returns-in_err-position
returns-in_err-position c =
    c.from_residual.ensures ∙ entry_missing 0 c.args.names.now c.args.entries.now c.args.name (sym c.position_of.ensures ∙ c.in_err-position.was)

pub returns : goal.returns
returns c = entry_found 0 c.args.names.now c.args.entries.now c.args.name c.in_ok-position.position (sym c.position_of.ensures ∙ c.in_ok-position.was)
