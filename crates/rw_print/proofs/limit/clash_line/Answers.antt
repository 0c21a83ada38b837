-- The line has no float.
use Rattle.rw_print.proofs.PlainLimits.{no_float_in_clash}
use Rattle.rw_print.proofs.limit.clash_line.Goals as goal

pub line_of-requires : goal.line_of-requires
line_of-requires c = rw c.in_ok-value.ensures (no_float_in_clash c.args.schema.now c.args.object c.args.part c.args.attr c.args.first.now c.args.second.now)
