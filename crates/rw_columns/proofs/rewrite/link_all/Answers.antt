-- The next name is free, and gets the image beside it.
use Rattle.std.proofs.Common.{◌∙◌, ◌<◌, length, slice_index, arith}
use Rattle.rw_spec.proofs.Ascending.{ascends_distinct}
use Rattle.rw_columns.proofs.Written.{column_more, next_is}
use Rattle.rw_columns.proofs.rewrite.link_all.Goals as goal

pub link-requires-clause-free : goal.link-requires-clause-free
link-requires-clause-free c =
    let names = c.args.names.now in
    let place = c.loop-place.place in
    let column = c.loop-place.column in
    let there : slice_index names place < length column.values = omega (arith, c.requires.places place c.loop-place-test.true, c.loop-place.invariant.long) in
    next_is names (slice_index c.args.images.now) place c.args.column.now column (ascends_distinct names c.requires.ascend) c.loop-place-test.true there c.loop-place.invariant
    ∙ c.requires.free place c.loop-place-test.true

pub loop-place-preserved : goal.loop-place-preserved
loop-place-preserved c =
    let names = c.args.names.now in
    let place = c.loop-place.place in
    let column = c.loop-place.column in
    let there : slice_index names place < length column.values = omega (arith, c.requires.places place c.loop-place-test.true, c.loop-place.invariant.long) in
    column_more names (slice_index c.args.images.now) place c.args.column.now column c.link.new.self (ascends_distinct names c.requires.ascend) c.loop-place-test.true there
    c.link.ensures c.loop-place.invariant
