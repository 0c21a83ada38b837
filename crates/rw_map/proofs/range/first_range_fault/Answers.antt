-- The images of an object are tested, and then those that are left.
use Rattle.std.proofs.Common.{◌∙◌, ◌<◌, ◌≤◌, ℕ, Option, length, sym}
use Rattle.rw_spec.specs.Tabled.{instance_of_table}
use Rattle.rw_map.specs.HomFaults.{stray_image}
use Rattle.rw_map.specs.declared.fault.HomFault.{HomFault}
use Rattle.rw_map.proofs.Objects.{object_here, object_next, object_past}
use Rattle.rw_map.proofs.range.first_range_fault.Goals as goal

pub returns-in-Some : goal.returns-in-Some
returns-in-Some c =
    let fault : ℕ → ℕ → Option HomFault = λ place object. stray_image (instance_of_table c.args.y.now) c.args.map.now object in
    let within : c.loop-place.place < length c.args.schema.now.objects = rw (← c.objects-place-end.ensures.value) c.loop-place-test.true in
    sym (c.loop-place.invariant ∙ object_here fault (length c.args.schema.now.objects) c.loop-place.place c.in-Some.fault within (sym c.in-Some.ensures))

pub loop-place-preserved : goal.loop-place-preserved
loop-place-preserved c =
    let fault : ℕ → ℕ → Option HomFault = λ place object. stray_image (instance_of_table c.args.y.now) c.args.map.now object in
    let within : c.loop-place.place < length c.args.schema.now.objects = rw (← c.objects-place-end.ensures.value) c.loop-place-test.true in
    c.loop-place.invariant ∙ object_next fault (length c.args.schema.now.objects) c.loop-place.place within (sym c.first_stray.ensures ∙ c.in_default.is)

pub returns : goal.returns
returns c =
    let fault : ℕ → ℕ → Option HomFault = λ place object. stray_image (instance_of_table c.args.y.now) c.args.map.now object in
    let past : length c.args.schema.now.objects ≤ c.loop-place.place = rw (← c.objects-place-end.ensures.value) c.loop-place-test.false in
    sym (c.loop-place.invariant ∙ object_past fault (length c.args.schema.now.objects) c.loop-place.place past)
