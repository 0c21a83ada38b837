-- The image beside the next name is linked to it.
use Rattle.std.proofs.Common.{slice_index}
use Rattle.rw_column.specs.Threads.{nothing}
use Rattle.rw_columns.proofs.Filled.{next_free, column_linked}
use Rattle.rw_columns.proofs.fill.column_of_images.Goals as goal

pub link-requires-clause-free : goal.link-requires-clause-free
link-requires-clause-free c =
    next_free nothing c.args.names.now (slice_index c.args.images.now) c.loop-place.place c.args.sources (slice_index c.loop-place.column.values)
    c.requires.names c.loop-place-test.true c.loop-place.invariant.filled

pub loop-place-preserved : goal.loop-place-preserved
loop-place-preserved c =
    column_linked c.loop-place.place c.args.sources c.args.targets c.args.names.now (slice_index c.args.images.now) c.loop-place.column c.link.new.self
    c.requires.names c.loop-place-test.true c.loop-place.invariant c.link.ensures
