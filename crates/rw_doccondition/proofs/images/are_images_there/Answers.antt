-- The images of an object are tested, and then those that are left.
use Rattle.std.proofs.Common.{◌≡◌, ◌∙◌, ◌+◌, ◌&&◌, ℕ, Bool, true, false, drop, get_or, sym, ap}
use Rattle.std.proofs.lemmas.List.{get_or_default}
use Rattle.rw_schema.specs.First.{all_in}
use Rattle.rw_spec.proofs.Sequences.{all_in_next}
use Rattle.rw_doccondition.specs.Images.{are_below}
use Rattle.rw_doccondition.proofs.images.are_images_there.Goals as goal

pub returns-then-not-are_below : goal.returns-then-not-are_below
returns-then-not-are_below c =
    let left = c.args.left.now in
    let object = c.loop-object.object in
    let size = get_or left object 0 in
    let test = λ (object size : ℕ). are_below c.args.sizes.now c.args.images.now object in
    let fails : are_below c.args.sizes.now c.args.images.now object ≡ false = sym c.are_below.ensures ∙ c.if-not-are_below.true in
    sym (c.loop-object.invariant
    ∙ all_in_next test left object size c.loop-object-test.true (get_or_default left object 0 size c.loop-object-test.true)
    ∙ ap (λ (b : Bool). b && all_in test (object + 1) (drop (object + 1) left)) fails)

pub loop-object-preserved : goal.loop-object-preserved
loop-object-preserved c =
    let left = c.args.left.now in
    let object = c.loop-object.object in
    let size = get_or left object 0 in
    let test = λ (object size : ℕ). are_below c.args.sizes.now c.args.images.now object in
    let passes : are_below c.args.sizes.now c.args.images.now object ≡ true = sym c.are_below.ensures ∙ c.if-not-are_below.false in
    c.loop-object.invariant
    ∙ all_in_next test left object size c.loop-object-test.true (get_or_default left object 0 size c.loop-object-test.true)
    ∙ ap (λ (b : Bool). b && all_in test (object + 1) (drop (object + 1) left)) passes
