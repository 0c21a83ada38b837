-- The line has no float.
use Rattle.rw_print.proofs.PlainRuns.{no_float_in_sample}
use Rattle.rw_print.proofs.sample.sample_line.Goals as goal

pub line_of-requires : goal.line_of-requires
line_of-requires c = rw c.in_ok-value.ensures (no_float_in_sample c.args.applied c.args.gone c.args.new c.as_slice.result.now c.as_slice-2.result.now)
