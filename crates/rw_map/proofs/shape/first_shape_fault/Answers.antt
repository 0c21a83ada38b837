-- An object is tested, and then those that are left.
use Rattle.std.proofs.Common.{◌∙◌, ◌<◌, ◌≤◌, ℕ, Option, length, sym}
use Rattle.rw_schema.specs.First.{fault_unless}
use Rattle.rw_schema.proofs.Firsts.{unless_false, unless_true}
use Rattle.rw_spec.specs.Tabled.{instance_of_table}
use Rattle.rw_map.specs.HomFaults.{has_images}
use Rattle.rw_map.specs.declared.fault.HomFault.{HomFault}
use Rattle.rw_map.specs.declared.fault.HomFault.TheVariants.{Shape}
use Rattle.rw_map.proofs.Objects.{object_here, object_next, object_past}
use Rattle.rw_map.proofs.shape.first_shape_fault.Goals as goal

pub returns-then-not-has_images : goal.returns-then-not-has_images
returns-then-not-has_images c =
    let test = has_images (instance_of_table c.args.x.now) c.args.map.now in
    let fault : ℕ → ℕ → Option HomFault = λ place object. fault_unless (test object) (Shape (record { 0 = object })) in
    let place = c.loop-place.place in
    let within : place < length c.args.schema.now.objects = rw (← c.objects-place-end.ensures.value) c.loop-place-test.true in
    sym (c.loop-place.invariant
    ∙ object_here fault (length c.args.schema.now.objects) place (Shape (record { 0 = place })) within
    (unless_false (test place) (Shape (record { 0 = place })) (sym c.has_images.ensures ∙ c.if-not-has_images.true)))

pub loop-place-preserved : goal.loop-place-preserved
loop-place-preserved c =
    let test = has_images (instance_of_table c.args.x.now) c.args.map.now in
    let fault : ℕ → ℕ → Option HomFault = λ place object. fault_unless (test object) (Shape (record { 0 = object })) in
    let place = c.loop-place.place in
    let within : place < length c.args.schema.now.objects = rw (← c.objects-place-end.ensures.value) c.loop-place-test.true in
    c.loop-place.invariant
    ∙ object_next fault (length c.args.schema.now.objects) place within
    (unless_true (test place) (Shape (record { 0 = place })) (sym c.has_images.ensures ∙ c.if-not-has_images.false))

pub returns : goal.returns
returns c =
    let fault : ℕ → ℕ → Option HomFault = λ place object. fault_unless (has_images (instance_of_table c.args.x.now) c.args.map.now object) (Shape (record { 0 = object })) in
    let past : length c.args.schema.now.objects ≤ c.loop-place.place = rw (← c.objects-place-end.ensures.value) c.loop-place-test.false in
    sym (c.loop-place.invariant ∙ object_past fault (length c.args.schema.now.objects) c.loop-place.place past)
