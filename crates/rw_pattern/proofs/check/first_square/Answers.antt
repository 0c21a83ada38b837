-- The square of an arrow is tested, and then those that are left.
use Rattle.std.proofs.Common.{◌≡◌, ◌∙◌, ◌<◌, ℕ, List, length, map, sym, ap, get_or}
use Rattle.std.proofs.lemmas.List.{length-map, get_or-map}
use Rattle.rw_schema.specs.declared.parts.ArrowDef.{ArrowDef}
use Rattle.rw_schema.specs.Presentation.{signature_of, ends_of_arrow}
use Rattle.rw_schema.specs.Signature.{Signature}
use Rattle.rw_schema.proofs.Firsts.{first_here, first_next}
use Rattle.rw_pattern.specs.MapFaults.{square_fault}
use Rattle.rw_pattern.proofs.Maps.{row_few}
use Rattle.rw_pattern.proofs.Shapes.{is_pattern, ends_at}
use Rattle.rw_pattern.proofs.check.first_square.Goals as goal

-- the ends of an arrow in the list of all ends
ends_is : (arrows : List ArrowDef) (i : ℕ) (arrow : ArrowDef) → i < length arrows → arrow ≡ get_or arrows i arrow
    → ends_of_arrow arrow ≡ get_or (map ends_of_arrow arrows) i (ends_of_arrow arrow)
ends_is arrows i arrow within is = sym (get_or-map ends_of_arrow arrows i arrow (ends_of_arrow arrow) within ∙ ap ends_of_arrow (sym is))

pub square_at-requires-clause-few : goal.square_at-requires-clause-few
square_at-requires-clause-few c =
    let C : Signature = signature_of c.args.schema.now in
    row_few C c.args.from.now c.loop-number.number (ends_of_arrow c.ends-item.result) c.arrow_list-ends-items.ensures.category (is_pattern C c.args.from.now c.requires.from)
    (ends_at c.arrow_list-ends-items.result.now c.args.schema.now.arrows c.loop-number.number c.ends-item.result
    c.arrow_list-ends-items.ensures.value c.loop-number-test.true c.ends-item.is)

pub returns-in-Some : goal.returns-in-Some
returns-in-Some c =
    let arrows : List ArrowDef = c.args.schema.now.arrows in
    let arrow : ArrowDef = c.ends-item.result in
    let within : c.loop-number.number < length arrows = rw (← c.arrow_list-ends-items.ensures.value) c.loop-number-test.true in
    let is : arrow ≡ get_or arrows c.loop-number.number arrow = rw (← c.arrow_list-ends-items.ensures.value) c.ends-item.is in
    sym (c.loop-number.invariant
    ∙ first_here (square_fault c.args.from.now c.args.to.now c.args.images.now) c.loop-number.number (map ends_of_arrow arrows) (ends_of_arrow arrow) c.in-Some.fault
    (rw (length-map arrows ends_of_arrow) within) (ends_is arrows c.loop-number.number arrow within is) (sym c.in-Some.ensures))

pub loop-number-preserved : goal.loop-number-preserved
loop-number-preserved c =
    let arrows : List ArrowDef = c.args.schema.now.arrows in
    let arrow : ArrowDef = c.ends-item.result in
    let within : c.loop-number.number < length arrows = rw (← c.arrow_list-ends-items.ensures.value) c.loop-number-test.true in
    let is : arrow ≡ get_or arrows c.loop-number.number arrow = rw (← c.arrow_list-ends-items.ensures.value) c.ends-item.is in
    c.loop-number.invariant
    ∙ first_next (square_fault c.args.from.now c.args.to.now c.args.images.now) c.loop-number.number (map ends_of_arrow arrows) (ends_of_arrow arrow)
    (rw (length-map arrows ends_of_arrow) within) (ends_is arrows c.loop-number.number arrow within is) (sym c.square_at.ensures ∙ c.in_default.is)
