-- The row of one arrow more.
use Rattle.std.proofs.Common.{◌≡◌, ◌∙◌, ◌<◌, [], ◌∷◌, ◌++◌, get_or, length, map, option_map, refl, ap, sym, arith}
use Rattle.std.proofs.lemmas.Grind.{common_steps}
use Rattle.std.proofs.lemmas.List.{length-map, get_or-map, map_push}
use Rattle.std.proofs.lemmas.Option.{slice_get-map, slice_get_read}
use Rattle.rw_schema.proofs.Lists.{map_in_more}
use Rattle.rw_schema.specs.Presentation.{ends_of_arrow}
use Rattle.rw_limits.specs.inner.Spans.{class_row_at}
use Rattle.rw_classes.specs.ClassLists.{number_lists, first_lists}
use Rattle.rw_limits.proofs.class_rows.class_rows.Goals as goal

pub row_along-requires : goal.row_along-requires
row_along-requires c =
    let arrows = c.args.arrows.now in
    let place = c.loop-place.place in
    let arrow = c.index-arrows-place.result in
    c.requires.values place (ends_of_arrow arrow)
    (slice_get-map ends_of_arrow arrows place ∙ ap (option_map ends_of_arrow) (slice_get_read arrows (length arrows) place arrow refl c.loop-place-test.true c.index-arrows-place.is))

pub loop-place-preserved : goal.loop-place-preserved
loop-place-preserved c =
    let arrows = c.args.arrows.now in
    let place = c.loop-place.place in
    let arrow = c.index-arrows-place.result in
    let row_at = class_row_at c.args.left.now c.args.right.now (number_lists c.args.classes.now) (first_lists c.args.classes.now) in
    let row = c.in_ok-row_along.field-0 in
    let pushed : c.push.new.self.items ≡ c.loop-place.rows.items ++ row ∷ [] = grind (arith, common_steps) in
    let within : place < length (map ends_of_arrow arrows) = rw (length-map arrows ends_of_arrow) c.loop-place-test.true in
    let here : ends_of_arrow arrow ≡ get_or (map ends_of_arrow arrows) place (ends_of_arrow arrow) =
    ap ends_of_arrow c.index-arrows-place.is ∙ sym (get_or-map ends_of_arrow arrows place arrow (ends_of_arrow arrow) c.loop-place-test.true) in
    ap (map (λ row. row.items)) pushed ∙ map_push (λ row. row.items) c.loop-place.rows.items row
    ∙ rw (c.loop-place.invariant, c.in_ok-row_along.ensures) (sym (map_in_more row_at (map ends_of_arrow arrows) place (ends_of_arrow arrow) within here))
