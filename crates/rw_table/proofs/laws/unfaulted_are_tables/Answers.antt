-- The law is a fact about lists.
use Rattle.rw_table.proofs.Unfaulted.{unfaulted_tables}
use Rattle.rw_table.proofs.laws.unfaulted_are_tables.Goals as goal

pub returns : goal.returns
returns c = unfaulted_tables
