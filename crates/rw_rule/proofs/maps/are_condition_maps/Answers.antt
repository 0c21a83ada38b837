-- Each condition's pattern is over the signature.
use Rattle.std.proofs.Common.{◌≡◌, ◌<◌, ◌∙◌, ℕ, All, List, map, length, get_or, subst, sym, ap}
use Rattle.std.proofs.lemmas.List.{length-map, get_or-map}
use Rattle.std.proofs.lemmas.List.Elements.{All-get_or}
use Rattle.std.proofs.lemmas.List.Folds.{list_all-map}
use Rattle.rw_schema.specs.declared.atom.Kind.{Kind}
use Rattle.rw_schema.specs.Presentation.{signature_of}
use Rattle.rw_rule.specs.RuleFaults.{IsConditionOver, is_map}
use Rattle.rw_rule.specs.RuleLists.{ConditionLists}
use Rattle.rw_rule.specs.RuleParts.{condition_of_parts}
use Rattle.rw_rule.proofs.maps.are_condition_maps.Goals as goal

-- what holds of all items behind a map holds of the one at a place
holds_at : {X Y : Type 0} (P : Y → Type 0) (f : X → Y) (xs : List X) (i : ℕ) (x : X) → All P (map f xs) → i < length xs → x ≡ get_or xs i x → P (f x)
holds_at P f xs i x all within is =
    subst P (get_or-map f xs i x (f x) within ∙ ap f (sym is)) (All-get_or P (map f xs) i (f x) (rw (length-map xs f) within) all)

pub is_map-requires-clause-to : goal.is_map-requires-clause-to
is_map-requires-clause-to c =
    let C = signature_of c.args.schema.now in
    let kinds : List Kind = c.args.goal.now.kinds.items in
    let over : IsConditionOver C kinds (condition_of_parts c.condition-item.result) =
    holds_at (IsConditionOver C kinds) condition_of_parts c.args.goal.now.conditions.items c.loop-condition.condition-index c.condition-item.result
    c.requires.conditions (rw (← c.as_slice-condition-items.ensures.value) c.loop-condition-test.true) (rw (← c.as_slice-condition-items.ensures.value) c.condition-item.is) in
    (kinds, over.pattern)

pub loop-condition-init : goal.loop-condition-init
loop-condition-init c =
    let C = signature_of c.args.schema.now in
    let left = c.args.goal.now.left in
    list_all-map (λ (condition : ConditionLists). is_map C left condition.pattern condition.images) condition_of_parts c.args.goal.now.conditions.items
