-- The new name stands beside the name.
use Rattle.std.proofs.Common.{◌∙◌, sym}
use Rattle.rw_glue.proofs.Steps.{beside_at, beside_none}
use Rattle.rw_glue.proofs.row_changes.new_name.Goals as goal

pub returns-in-Some : goal.returns-in-Some
returns-in-Some c = beside_at c.args.name c.args.moved.now c.args.name c.in-Some.place (0, 0) (sym c.place_of_entry.ensures ∙ c.in-Some.is)

pub returns-in-None : goal.returns-in-None
returns-in-None c = beside_none c.args.name c.args.moved.now c.args.name (sym c.place_of_entry.ensures ∙ c.in-None.is)
