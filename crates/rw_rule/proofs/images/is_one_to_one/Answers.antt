-- The images of an object are tested, and then those that are left.
use Rattle.std.proofs.Common.{◌≡◌, ◌∙◌, ◌<◌, ◌+◌, ◌&&◌, ℕ, List, Bool, true, false, length, get_or, drop, sym, ap}
use Rattle.std.proofs.lemmas.List.{get_or_default}
use Rattle.rw_schema.specs.First.{all_in}
use Rattle.rw_spec.proofs.Sequences.{all_in_next}
use Rattle.rw_spec.specs.Distinct.{are_distinct}
use Rattle.rw_rule.specs.Images.{has_distinct_images}
use Rattle.rw_rule.proofs.images.is_one_to_one.Goals as goal

-- the images of the object, and then those of the objects that are left
images_next : (images : List (List ℕ)) (sizes : List ℕ) (object : ℕ) (passes : Bool) → object < length sizes → has_distinct_images images object (get_or sizes object 0) ≡ passes
    → all_in (has_distinct_images images) object (drop object sizes) ≡ (passes && all_in (has_distinct_images images) (object + 1) (drop (object + 1) sizes))
images_next images sizes object passes within here =
    let size : ℕ = get_or sizes object 0 in
    all_in_next (has_distinct_images images) sizes object size within (get_or_default sizes object 0 size within)
    ∙ ap (λ (b : Bool). b && all_in (has_distinct_images images) (object + 1) (drop (object + 1) sizes)) here

pub returns-then-not-is_each_once : goal.returns-then-not-is_each_once
returns-then-not-is_each_once c =
    let sizes : List ℕ = c.args.from.now.sizes in
    let within : c.loop-object.object < length sizes = rw (← c.sizes-items.ensures.value) c.loop-object-test.true in
    let fails : are_distinct c.images.result.now ≡ false = sym c.is_each_once.ensures ∙ c.if-not-is_each_once.true in
    let here : has_distinct_images c.args.images.now c.loop-object.object (get_or sizes c.loop-object.object 0) ≡ false = rw (← c.images.ensures) fails in
    sym (c.loop-object.invariant ∙ images_next c.args.images.now sizes c.loop-object.object false within here)

pub loop-object-preserved : goal.loop-object-preserved
loop-object-preserved c =
    let sizes : List ℕ = c.args.from.now.sizes in
    let within : c.loop-object.object < length sizes = rw (← c.sizes-items.ensures.value) c.loop-object-test.true in
    let passes : are_distinct c.images.result.now ≡ true = sym c.is_each_once.ensures ∙ c.if-not-is_each_once.false in
    let here : has_distinct_images c.args.images.now c.loop-object.object (get_or sizes c.loop-object.object 0) ≡ true = rw (← c.images.ensures) passes in
    c.loop-object.invariant ∙ images_next c.args.images.now sizes c.loop-object.object true within here
