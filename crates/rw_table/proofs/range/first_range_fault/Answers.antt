-- Each row of lists of the right shape is whole.
use Rattle.std.proofs.Common.{◌≡◌, ◌∙◌, length, slice_get, Some, refl, ap}
use Rattle.std.specs.Option.{option_map}
use Rattle.std.proofs.lemmas.Option.{slice_get-map, slice_get_read}
use Rattle.rw_schema.specs.Presentation.{signature_of, ends_of_arrow}
use Rattle.rw_table.proofs.Checked.{row_whole}
use Rattle.rw_table.proofs.range.first_range_fault.Goals as goal

pub first_row_fault-requires-clause-beside : goal.first_row_fault-requires-clause-beside
first_row_fault-requires-clause-beside c =
    let schema = c.args.schema.now in
    let listed = c.arrow_list-arrows.result.now in
    let place = c.loop-place.place in
    let arrow = c.index-arrows-place.result in
    let there : slice_get schema.arrows place ≡ Some arrow = rw (← c.arrow_list-arrows.ensures.value) (slice_get_read listed (length listed) place arrow refl c.loop-place-test.true c.index-arrows-place.is) in
    rw c.ends_of.ensures
    (row_whole (signature_of schema) c.args.rows.now place (ends_of_arrow arrow) c.requires.shape (slice_get-map ends_of_arrow schema.arrows place ∙ ap (option_map ends_of_arrow) there))
