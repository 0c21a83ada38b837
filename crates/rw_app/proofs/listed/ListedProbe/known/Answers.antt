-- What is read is the instance of the lists.
use Rattle.rw_app.proofs.ColumnLists.{is_listed_instance, listed_ascends}
use Rattle.rw_app.proofs.listed.ListedProbe.known.Goals as goal

pub returns-clause-instance : goal.returns-clause-instance
returns-clause-instance c = is_listed_instance c.args.self.now.columns.now c.known_columns.ensures.category c.known_columns.ensures.ascend c.known_columns.ensures.instance

pub returns-clause-ascend : goal.returns-clause-ascend
returns-clause-ascend c = listed_ascends c.args.self.now.columns.now c.known_columns.ensures.category c.known_columns.ensures.ascend
