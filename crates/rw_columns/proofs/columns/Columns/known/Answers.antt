use Rattle.rw_columns.proofs.Changed.{names_ascend}
use Rattle.rw_columns.proofs.columns.Columns.known.Goals as goal

pub returns-clause-ascend : goal.returns-clause-ascend
returns-clause-ascend c object = names_ascend c.args.self.now object
