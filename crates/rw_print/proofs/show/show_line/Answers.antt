-- The line has no float.
use Rattle.rw_print.proofs.PlainRuns.{no_float_in_show}
use Rattle.rw_print.proofs.show.show_line.Goals as goal

pub line_of-requires : goal.line_of-requires
line_of-requires c = rw c.in_ok-value.ensures (no_float_in_show c.args.place c.args.rows.now)
