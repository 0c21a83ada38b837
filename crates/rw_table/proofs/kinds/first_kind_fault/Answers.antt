-- Each attribute of lists of the right shape has whole cells.
use Rattle.std.proofs.Common.{◌≡◌, ◌∙◌, length, slice_get, Some, refl, ap}
use Rattle.std.specs.Option.{option_map}
use Rattle.std.proofs.lemmas.Option.{slice_get-map, slice_get_read}
use Rattle.rw_schema.specs.Presentation.{signature_of, ends_of_attribute}
use Rattle.rw_table.proofs.Checked.{cells_whole}
use Rattle.rw_table.proofs.kinds.first_kind_fault.Goals as goal

pub first_cell_fault-requires-clause-beside : goal.first_cell_fault-requires-clause-beside
first_cell_fault-requires-clause-beside c =
    let schema = c.args.schema.now in
    let listed = c.attribute_list-attributes.result.now in
    let place = c.loop-place.place in
    let attribute = c.index-attributes-place.result in
    let there : slice_get schema.attributes place ≡ Some attribute = rw (← c.attribute_list-attributes.ensures.value) (slice_get_read listed (length listed) place attribute refl c.loop-place-test.true c.index-attributes-place.is) in
    rw c.ends_of.ensures
    (cells_whole (signature_of schema) c.args.rows.now place (ends_of_attribute attribute) c.requires.shape (slice_get-map ends_of_attribute schema.attributes place ∙ ap (option_map ends_of_attribute) there))
