-- The name of the next row has a number, and gets that of the row.
use Rattle.std.proofs.Common.{◌≡◌, ◌≢◌, ◌∙◌, ◌<◌, ℕ, length, slice_index, slice_index_or, slice_set, sym, arith, subst}
use Rattle.std.proofs.lemmas.List.{get_or-map, length-map}
use Rattle.rw_column.specs.Threads.{Threaded, nothing}
use Rattle.rw_columns.specs.Changes.{entry_names, entry_values}
use Rattle.rw_columns.proofs.Written.{column_more, next_is, next_there}
use Rattle.rw_columns.proofs.rewrite.redirect_each.Goals as goal

pub redirect-requires-clause-place : goal.redirect-requires-clause-place
redirect-requires-clause-place c =
    let rows = c.args.rows.now in
    let place = c.loop-name.name-index in
    subst (λ (name : ℕ). name < length c.loop-name.column.values) (get_or-map (λ entry. entry.0) rows place (0, 0) 0 c.loop-name-test.true)
    (next_there (entry_names rows) (slice_index (entry_values rows)) place c.args.column.now c.loop-name.column c.loop-name.invariant
    (c.requires.there place c.loop-name-test.true))

pub redirect-requires-clause-some : goal.redirect-requires-clause-some
redirect-requires-clause-some c =
    let rows = c.args.rows.now in
    let place = c.loop-name.name-index in
    let some = c.requires.there place c.loop-name-test.true in
    let count : place < length (entry_names rows) = omega (arith, length-map rows (λ entry. entry.0), c.loop-name-test.true) in
    let there = next_there (entry_names rows) (slice_index (entry_values rows)) place c.args.column.now c.loop-name.column c.loop-name.invariant some in
    subst (λ (name : ℕ). slice_index c.loop-name.column.values name ≢ nothing) (get_or-map (λ entry. entry.0) rows place (0, 0) 0 c.loop-name-test.true)
    (λ none. some (sym (next_is (entry_names rows) (slice_index (entry_values rows)) place c.args.column.now c.loop-name.column c.requires.distinct count there c.loop-name.invariant) ∙ none))

pub redirect-requires-clause-value : goal.redirect-requires-clause-value
redirect-requires-clause-value c =
    let rows = c.args.rows.now in
    let place = c.loop-name.name-index in
    let value = get_or-map (λ entry. entry.1) rows place (0, 0) 0 c.loop-name-test.true in
    omega (arith, value, c.requires.within place c.loop-name-test.true, c.loop-name.invariant.wide)

pub loop-name-preserved : goal.loop-name-preserved
loop-name-preserved c =
    let rows = c.args.rows.now in
    let place = c.loop-name.name-index in
    let column = c.loop-name.column in
    let count : place < length (entry_names rows) = omega (arith, length-map rows (λ entry. entry.0), c.loop-name-test.true) in
    let there = next_there (entry_names rows) (slice_index (entry_values rows)) place c.args.column.now column c.loop-name.invariant
    (c.requires.there place c.loop-name-test.true) in
    let set_to = λ (name value : ℕ). let new : Threaded = record { values = slice_set column.values name value; targets = column.targets; room = column.room; target_room = column.target_room } in new in
    let is_set : c.redirect.new.column ≡ set_to (slice_index (entry_names rows) place) (slice_index (entry_values rows) place) =
    subst (λ (name : ℕ). c.redirect.new.column ≡ set_to name (slice_index (entry_values rows) place)) (sym (get_or-map (λ entry. entry.0) rows place (0, 0) 0 c.loop-name-test.true))
    (subst (λ (value : ℕ). c.redirect.new.column ≡ set_to (slice_index_or rows place (0, 0)).0 value) (sym (get_or-map (λ entry. entry.1) rows place (0, 0) 0 c.loop-name-test.true)) c.redirect.ensures) in
    column_more (entry_names rows) (slice_index (entry_values rows)) place c.args.column.now column c.redirect.new.column c.requires.distinct count there
    is_set c.loop-name.invariant
