-- The line has no float.
use Rattle.rw_print.proofs.Plain.{no_float_in_check}
use Rattle.rw_print.proofs.check.check_line.Goals as goal

pub line_of-requires : goal.line_of-requires
line_of-requires c = rw c.in_ok-value.ensures (no_float_in_check c.as_slice.result.now c.as_slice-2.result.now)
