-- The image at the place of the name.
use Rattle.std.proofs.Common.{◌∙◌, sym, ap}
use Rattle.std.specs.Option.{unwrap_or}
use Rattle.rw_table.proofs.Places.{entry_found, entry_missing, entry_none, entry_or}
use Rattle.rw_map.proofs.look.image_beside.Goals as goal

pub returns-in-Some : goal.returns-in-Some
returns-in-Some c =
    let images = c.args.images.now in
    ap (λ found. unwrap_or found 0) (entry_found 0 c.args.names.now images c.args.name c.in-Some.place (sym c.in-Some.ensures)) ∙ entry_or 0 c.args.names.now images c.args.name

pub returns-in-None : goal.returns-in-None
returns-in-None c =
    entry_none 0 c.args.names.now c.args.images.now c.args.name (entry_missing 0 c.args.names.now c.args.images.now c.args.name (sym c.in-None.ensures))
