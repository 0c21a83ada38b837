-- The list of one object more.
use Rattle.std.proofs.Common.{◌≡◌, ◌∙◌, ◌<◌, ℕ, List, [], ◌∷◌, ◌++◌, get_or, length, map, take, ap, sym, arith}
use Rattle.std.proofs.lemmas.Grind.{common_steps}
use Rattle.std.proofs.lemmas.List.{length-map, get_or-map, map_push}
use Rattle.rw_schema.proofs.Lists.{map_in_more}
use Rattle.rw_schema.specs.RowLists.{list_at}
use Rattle.rw_classes.specs.ClassLists.{number_lists}
use Rattle.rw_limits.proofs.class_names.left_lists.Goals as goal

pub loop-place-preserved : goal.loop-place-preserved
loop-place-preserved c =
    let classes = c.args.classes.now in
    let place = c.loop-place.place in
    let each = c.index-classes-place.result in
    let leg_at = λ (object : ℕ) (each : List ℕ). take (length (list_at c.args.left.now.names object)) each in
    let leg = c.in_ok-front.field-0 in
    let pushed : c.push.new.self.items ≡ c.loop-place.lists.items ++ leg ∷ [] = grind (arith, common_steps) in
    let within : place < length (number_lists classes) = rw (length-map classes (λ each. each.numbers.items)) c.loop-place-test.true in
    let here : each.numbers.items ≡ get_or (number_lists classes) place each.numbers.items =
    ap (λ each. each.numbers.items) c.index-classes-place.is ∙ sym (get_or-map (λ each. each.numbers.items) classes place each each.numbers.items c.loop-place-test.true) in
    let leg_is : leg.items ≡ leg_at place each.numbers.items = rw (← c.names-count.ensures, ← c.as_slice.ensures.value) c.in_ok-front.ensures in
    ap (map (λ list. list.items)) pushed ∙ map_push (λ list. list.items) c.loop-place.lists.items leg
    ∙ rw (c.loop-place.invariant, leg_is) (sym (map_in_more leg_at (number_lists classes) place each.numbers.items within here))
