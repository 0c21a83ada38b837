-- The places of the name in the arrow's column are the names that the arrow leads to it.
use Rattle.std.proofs.Common.{◌∙◌, ap}
use Rattle.rw_column.specs.Threads.{Threaded, places_from}
use Rattle.rw_columns.proofs.Columned.{target_place, preimage_places}
use Rattle.rw_columns.proofs.columns.Columns.preimage.Goals as goal

pub new-requires : goal.new-requires
new-requires c = rw c.row.ensures.column (target_place c.args.self.now c.row.ensures.sound c.args.arrow.0 c.requires.arrow c.args.name c.requires.name)

pub returns : goal.returns
returns c =
    let columns = c.args.self.now in
    let sound = c.row.ensures.sound in
    let within = target_place columns sound c.args.arrow.0 c.requires.arrow c.args.name c.requires.name in
    c.of.ensures ∙ c.new.ensures ∙ ap (λ (column : Threaded). places_from column.values c.args.name 0) c.row.ensures.column
    ∙ preimage_places columns sound c.args.arrow.0 c.requires.arrow c.args.name within
