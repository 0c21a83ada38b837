-- The names are those of the columns.
use Rattle.std.proofs.Common.{◌∙◌, sym}
use Rattle.rw_app.proofs.ColumnLists.{names_same}
use Rattle.rw_app.proofs.listed.ListedProbe.names.Goals as goal

pub returns : goal.returns
returns c = c.names.ensures ∙ sym (names_same c.args.self.now.columns.now c.args.object.0 c.requires)
