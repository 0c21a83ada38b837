-- The cells of an attribute are tested, and then those that are left.
use Rattle.std.proofs.Common.{◌≡◌, ◌∙◌, ◌<◌, List, length, get_or, sym}
use Rattle.rw_schema.specs.declared.parts.AttrDef.{AttrDef}
use Rattle.rw_schema.specs.Presentation.{ends_of_attribute}
use Rattle.rw_spec.specs.Homomorphism.{map_of}
use Rattle.rw_spec.specs.Tabled.{instance_of_table}
use Rattle.rw_map.specs.HomFaults.{lost_cell}
use Rattle.rw_map.proofs.Ends.{ends_here, ends_next}
use Rattle.rw_map.proofs.kept.first_cell_fault.Goals as goal

pub returns-in-Some : goal.returns-in-Some
returns-in-Some c =
    let X = instance_of_table c.args.x.now in
    let fault = lost_cell X (instance_of_table c.args.y.now) (map_of X c.args.map.now) in
    let listed : List AttrDef = c.args.schema.now.attributes in
    let ends : AttrDef = c.ends-item.result in
    let within : c.loop-place.place < length listed = rw (← c.attribute_list-ends-items.ensures.value) c.loop-place-test.true in
    let is : ends ≡ get_or listed c.loop-place.place ends = rw (← c.attribute_list-ends-items.ensures.value) c.ends-item.is in
    sym (c.loop-place.invariant ∙ ends_here ends_of_attribute fault listed c.loop-place.place ends c.in-Some.fault within is (sym c.in-Some.ensures))

pub loop-place-preserved : goal.loop-place-preserved
loop-place-preserved c =
    let X = instance_of_table c.args.x.now in
    let fault = lost_cell X (instance_of_table c.args.y.now) (map_of X c.args.map.now) in
    let listed : List AttrDef = c.args.schema.now.attributes in
    let ends : AttrDef = c.ends-item.result in
    let within : c.loop-place.place < length listed = rw (← c.attribute_list-ends-items.ensures.value) c.loop-place-test.true in
    let is : ends ≡ get_or listed c.loop-place.place ends = rw (← c.attribute_list-ends-items.ensures.value) c.ends-item.is in
    c.loop-place.invariant ∙ ends_next ends_of_attribute fault listed c.loop-place.place ends within is (sym c.first_lost.ensures ∙ c.in_default.is)
