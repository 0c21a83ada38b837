-- The names of source and target ascend.
use Rattle.rw_table.proofs.Checked.{names_ascend}
use Rattle.rw_table.proofs.range.first_row_fault.Goals as goal

pub count_of-count-requires : goal.count_of-count-requires
count_of-count-requires c = rw c.names-sources.ensures (names_ascend c.args.rows.now c.args.ends.source.0 c.requires.names)

pub first_stray-requires-clause-names : goal.first_stray-requires-clause-names
first_stray-requires-clause-names c = rw c.names-targets.ensures (names_ascend c.args.rows.now c.args.ends.target.0 c.requires.names)
