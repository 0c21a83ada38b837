-- The next name is free, and gets the number 0.
use Rattle.std.proofs.Common.{◌∙◌, ◌<◌, length, slice_index, arith}
use Rattle.rw_spec.proofs.Ascending.{ascends_distinct}
use Rattle.rw_columns.proofs.Written.{column_more, next_is}
use Rattle.rw_columns.proofs.rewrite.link_names.Goals as goal

pub link-requires-clause-free : goal.link-requires-clause-free
link-requires-clause-free c =
    let names = c.args.names.now in
    let place = c.loop-name.name-index in
    let column = c.loop-name.column in
    let there : slice_index names place < length column.values = omega (arith, c.requires.places place c.loop-name-test.true, c.loop-name.invariant.long) in
    next_is names (λ k. 0) place c.args.column.now column (ascends_distinct names c.requires.ascend) c.loop-name-test.true there c.loop-name.invariant
    ∙ c.requires.free place c.loop-name-test.true

pub loop-name-preserved : goal.loop-name-preserved
loop-name-preserved c =
    let names = c.args.names.now in
    let place = c.loop-name.name-index in
    let column = c.loop-name.column in
    let there : slice_index names place < length column.values = omega (arith, c.requires.places place c.loop-name-test.true, c.loop-name.invariant.long) in
    column_more names (λ k. 0) place c.args.column.now column c.link.new.self (ascends_distinct names c.requires.ascend) c.loop-name-test.true there c.link.ensures c.loop-name.invariant
