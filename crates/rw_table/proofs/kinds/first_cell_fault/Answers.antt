-- The names of the object ascend.
use Rattle.rw_table.proofs.Checked.{names_ascend}
use Rattle.rw_table.proofs.kinds.first_cell_fault.Goals as goal

pub count_of-count-requires : goal.count_of-count-requires
count_of-count-requires c = rw c.names-names.ensures (names_ascend c.args.rows.now c.args.ends.object.0 c.requires.names)
