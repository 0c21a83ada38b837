-- The name has an entry exactly where it has a place.
use Rattle.std.proofs.Common.{◌∙◌, ◌==◌, ap}
use Rattle.rw_columns.specs.Changes.{entry_names}
use Rattle.std.specs.Option.{is_some}
use Rattle.rw_table.proofs.Places.{place_found}
use Rattle.rw_glue.proofs.cell_changes.is_moved.Goals as goal

pub returns : goal.returns
returns c = c.is_some.ensures ∙ ap is_some c.place_of_entry.ensures ∙ place_found (λ other. other == c.args.name) (entry_names c.args.moved.now)
