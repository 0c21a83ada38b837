-- The images of an object are tested, and then those that are left.
use Rattle.std.proofs.Common.{◌≡◌, ◌∙◌, ◌<◌, ◌≤◌, None, Some, ℕ, List, length, sum, get_or, sym, arith}
use Rattle.std.proofs.lemmas.List.{get_or_default}
use Rattle.rw_schema.proofs.Firsts.{first_here, first_next}
use Rattle.rw_pattern.specs.MapFaults.{image_fault}
use Rattle.rw_pattern.proofs.Maps.{images_few, image_fault_is}
use Rattle.rw_pattern.proofs.check.first_stray.Goals as goal

pub stray_in-requires : goal.stray_in-requires
stray_in-requires c =
    let sizes : List ℕ = c.args.from.now.sizes in
    let within : c.loop-number.number < length sizes = rw (← c.sizes-items.ensures.value) c.loop-number-test.true in
    let few : sum sizes ≤ 64 = rw (← c.sizes-items.ensures.value) c.sizes-items.ensures.parts in
    rw c.images.ensures (omega (arith, images_few c.args.from.now c.args.images.now c.loop-number.number c.requires.shape within, few))

pub returns-in-Some : goal.returns-in-Some
returns-in-Some c =
    let sizes : List ℕ = c.args.from.now.sizes in
    let number : ℕ = c.loop-number.number in
    let size : ℕ = get_or sizes number 0 in
    let within : number < length sizes = rw (← c.sizes-items.ensures.value) c.loop-number-test.true in
    let fault : image_fault c.args.to.now c.args.images.now number size ≡ Some c.in-Some.fault =
    image_fault_is c.args.to.now c.args.images.now number size c.images.result.now c.size.result (Some c.in-Some.fault) c.images.ensures c.size.ensures c.in-Some.ensures in
    sym (c.loop-number.invariant
    ∙ first_here (image_fault c.args.to.now c.args.images.now) number sizes size c.in-Some.fault within (get_or_default sizes number 0 size within) fault)

pub loop-number-preserved : goal.loop-number-preserved
loop-number-preserved c =
    let sizes : List ℕ = c.args.from.now.sizes in
    let number : ℕ = c.loop-number.number in
    let size : ℕ = get_or sizes number 0 in
    let within : number < length sizes = rw (← c.sizes-items.ensures.value) c.loop-number-test.true in
    let none : image_fault c.args.to.now c.args.images.now number size ≡ None =
    image_fault_is c.args.to.now c.args.images.now number size c.images.result.now c.size.result None c.images.ensures c.size.ensures (sym c.in_default.is ∙ c.stray_in.ensures) in
    c.loop-number.invariant
    ∙ first_next (image_fault c.args.to.now c.args.images.now) number sizes size within (get_or_default sizes number 0 size within) none
