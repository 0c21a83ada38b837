-- The images of an object are parts of the condition's pattern, and their places stand behind those of the objects before it.
use Rattle.std.proofs.Common.{◌∙◌, ◌<◌, ◌++◌, ℕ, List, All, length, map, get_or, sym, ap, subst}
use Rattle.std.proofs.lemmas.List.Elements.{All-from_get_or}
use Rattle.std.proofs.lemmas.Option.{slice_get-get_or}
use Rattle.rw_schema.specs.RowLists.{list_at}
use Rattle.rw_spec.proofs.Sequences.{flat_map_in_more}
use Rattle.rw_pattern.specs.PatternLists.{size_of, place_of}
use Rattle.rw_pattern.proofs.Maps.{IsMap, is_map}
use Rattle.rw_rule.specs.RuleLists.{ConditionLists}
use Rattle.rw_rule.specs.RuleParts.{condition_of_parts}
use Rattle.rw_kept.specs.Conditions.{places_of}
use Rattle.rw_kept.proofs.restrict.image_places.Goals as goal

pub push_places-requires-clause-parts : goal.push_places-requires-clause-parts
push_places-requires-clause-parts c =
    let left = c.args.left.now in
    let condition : ConditionLists = condition_of_parts c.args.condition.now in
    let number : ℕ = c.loop-number.number in
    let within : number < length left.sizes = rw (← c.sizes-items.ensures.value) c.loop-number-test.true in
    let is : IsMap c.requires.0 left condition.pattern condition.images = is_map c.requires.0 left condition.pattern condition.images c.requires.2.map_is in
    subst (All (λ part. part < size_of condition.pattern number)) (sym c.images.ensures)
    (All-from_get_or (λ part. part < size_of condition.pattern number) (list_at condition.images number) 0 (λ k below.
    is.range number k (get_or (list_at condition.images number) k 0) within (slice_get-get_or (list_at condition.images number) k 0 below)))

pub loop-number-preserved : goal.loop-number-preserved
loop-number-preserved c =
    let left = c.args.left.now in
    let condition : ConditionLists = condition_of_parts c.args.condition.now in
    let number : ℕ = c.loop-number.number in
    let within : number < length left.sizes = rw (← c.sizes-items.ensures.value) c.loop-number-test.true in
    c.in_ok-push_places.ensures
    ∙ ap (λ (images : List ℕ). c.loop-number.places.items ++ map (place_of condition.pattern number) images) c.images.ensures
    ∙ ap (λ (front : List ℕ). front ++ places_of condition number (get_or left.sizes number 0)) c.loop-number.invariant
    ∙ sym (flat_map_in_more (places_of condition) left.sizes number 0 within)
