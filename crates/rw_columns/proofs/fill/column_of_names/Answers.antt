-- The number 0 is linked to the next name.
use Rattle.std.proofs.Common.{slice_index}
use Rattle.rw_column.specs.Threads.{nothing}
use Rattle.rw_columns.proofs.Filled.{next_free, column_linked}
use Rattle.rw_columns.proofs.fill.column_of_names.Goals as goal

pub link-requires-clause-free : goal.link-requires-clause-free
link-requires-clause-free c =
    next_free nothing c.args.names.now (λ k. 0) c.loop-name.name-index c.args.places (slice_index c.loop-name.live.values)
    c.requires c.loop-name-test.true c.loop-name.invariant.filled

pub loop-name-preserved : goal.loop-name-preserved
loop-name-preserved c =
    column_linked c.loop-name.name-index c.args.places 1 c.args.names.now (λ k. 0) c.loop-name.live c.link.new.self
    c.requires c.loop-name-test.true c.loop-name.invariant c.link.ensures
