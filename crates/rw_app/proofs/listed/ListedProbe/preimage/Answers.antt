-- The names that are led there are those in the columns.
use Rattle.std.proofs.Common.{◌∙◌}
use Rattle.rw_app.proofs.ColumnLists.{has_target, preimage_same}
use Rattle.rw_app.proofs.listed.ListedProbe.preimage.Goals as goal

pub preimage-requires-clause-name : goal.preimage-requires-clause-name
preimage-requires-clause-name c =
    has_target c.args.self.now.columns.now c.known_columns.ensures.category c.known_columns.ensures.ascend c.args.arrow.0 c.args.name c.requires.arrow c.requires.name

pub returns : goal.returns
returns c =
    c.preimage.ensures ∙ preimage_same c.args.self.now.columns.now c.known_columns.ensures.category c.known_columns.ensures.ascend c.args.arrow.0 c.args.name c.requires.arrow
