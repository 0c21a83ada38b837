use Rattle.std.proofs.Common.{option_map}
use Rattle.rw_lists.specs.News.{numbered_lists}
use Rattle.rw_print.proofs.Plain.{no_float_in_step}
use Rattle.rw_print.proofs.step.step_line.Goals as goal

pub line_of-requires : goal.line_of-requires
line_of-requires c =
    rw c.in_ok-value.ensures
    (no_float_in_step c.args.schema.now c.args.place c.args.rule.now (option_map (λ tuple. tuple.now) c.args.tuple) (numbered_lists c.args.lists.now) c.as_slice.result.now)
