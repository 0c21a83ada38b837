-- The next name has a number, and loses it.
use Rattle.std.proofs.Common.{◌∙◌, sym}
use Rattle.rw_column.specs.Threads.{nothing}
use Rattle.rw_spec.proofs.Ascending.{ascends_distinct}
use Rattle.rw_columns.proofs.Written.{column_more, next_is, next_there}
use Rattle.rw_columns.proofs.rewrite.unlink_all.Goals as goal

pub unlink-requires-clause-place : goal.unlink-requires-clause-place
unlink-requires-clause-place c =
    next_there c.args.names.now (λ k. nothing) c.loop-name.name-index c.args.column.now c.loop-name.column c.loop-name.invariant
    (c.requires.there c.loop-name.name-index c.loop-name-test.true)

pub unlink-requires-clause-some : goal.unlink-requires-clause-some
unlink-requires-clause-some c = λ none.
    let names = c.args.names.now in
    let place = c.loop-name.name-index in
    let some = c.requires.there place c.loop-name-test.true in
    let there = next_there names (λ k. nothing) place c.args.column.now c.loop-name.column c.loop-name.invariant some in
    some (sym (next_is names (λ k. nothing) place c.args.column.now c.loop-name.column (ascends_distinct names c.requires.ascend) c.loop-name-test.true there c.loop-name.invariant) ∙ none)

pub loop-name-preserved : goal.loop-name-preserved
loop-name-preserved c =
    let names = c.args.names.now in
    let place = c.loop-name.name-index in
    let there = next_there names (λ k. nothing) place c.args.column.now c.loop-name.column c.loop-name.invariant (c.requires.there place c.loop-name-test.true) in
    column_more names (λ k. nothing) place c.args.column.now c.loop-name.column c.unlink.new.self (ascends_distinct names c.requires.ascend) c.loop-name-test.true there
    c.unlink.ensures c.loop-name.invariant
