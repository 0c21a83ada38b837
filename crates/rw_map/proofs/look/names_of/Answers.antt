-- The names of a table ascend.
use Rattle.rw_table.proofs.Checked.{checked_known, names_ascend}
use Rattle.rw_map.proofs.look.names_of.Goals as goal

pub returns-clause-ascend : goal.returns-clause-ascend
returns-clause-ascend c =
    let table = c.args.table.now in
    rw c.names.ensures (rw c.rows.ensures.value (names_ascend table.rows c.args.object.0 (checked_known table.signature table.rows c.rows.ensures.sound).names))
