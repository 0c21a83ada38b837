-- The number 0 stands at the names.
use Rattle.std.proofs.Common.{◌∙◌}
use Rattle.rw_columns.specs.Columned.{column_at}
use Rattle.rw_columns.proofs.Columned.{has_place}
use Rattle.rw_columns.proofs.columns.Columns.is_live.Goals as goal

pub returns : goal.returns
returns c = rw c.live.ensures.column at c.has.ensures ∙ has_place (column_at c.args.self.now.names c.args.object.0).values 0 c.args.name
