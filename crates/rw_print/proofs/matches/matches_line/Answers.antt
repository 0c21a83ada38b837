use Rattle.rw_print.proofs.Plain.{no_float_in_matches}
use Rattle.rw_print.proofs.matches.matches_line.Goals as goal

pub line_of-requires : goal.line_of-requires
line_of-requires c = rw c.in_ok-value.ensures (no_float_in_matches c.args.name.now c.as_slice.result.now)
