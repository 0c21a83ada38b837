-- The first clash of one attribute more.
use Rattle.std.proofs.Common.{◌≡◌, ◌∙◌, ◌<◌, length, map, option_map, slice_get, Some, refl, ap}
use Rattle.std.proofs.lemmas.Option.{slice_get-map, slice_get_read}
use Rattle.rw_schema.specs.Presentation.{ends_of_attribute}
use Rattle.rw_classes.proofs.FirstClash.{first_more}
use Rattle.rw_classes.proofs.clashes.first_clash.Goals as goal

pub loop-place-preserved : goal.loop-place-preserved
loop-place-preserved c =
    let attributes = c.args.attributes.now in
    let merged = c.args.merged.now in
    let place = c.loop-place.place in
    let attribute = c.index-attributes-place.result in
    let each = c.index-merged-place.result in
    let there : slice_get (map ends_of_attribute attributes) place ≡ Some (ends_of_attribute attribute) =
    slice_get-map ends_of_attribute attributes place ∙ ap (option_map ends_of_attribute) (slice_get_read attributes (length attributes) place attribute refl c.loop-place-test.true c.index-attributes-place.is) in
    let within : place < length merged = rw c.requires.each c.loop-place-test.true in
    let each_there : slice_get merged place ≡ Some each = slice_get_read merged (length merged) place each refl within c.index-merged-place.is in
    rw (c.lesser_of-found.ensures, c.clash_of-new.ensures)
    (first_more place (map ends_of_attribute attributes) merged (ends_of_attribute attribute) there each c.loop-place.found each_there c.loop-place.invariant)
