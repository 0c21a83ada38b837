-- The line has no float.
use Rattle.rw_print.proofs.PlainLimits.{no_float_in_limit}
use Rattle.rw_print.proofs.limit.limit_line.Goals as goal

pub line_of-requires : goal.line_of-requires
line_of-requires c = rw c.in_ok-value.ensures (no_float_in_limit c.rows-rows.result.now c.args.left.now c.args.right.now)
