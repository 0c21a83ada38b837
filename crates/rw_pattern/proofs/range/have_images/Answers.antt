-- The row of an arrow is tested, and then those that are left.
use Rattle.std.proofs.Common.{◌≡◌, ◌∙◌, ◌<◌, List, true, false, length, get_or, sym}
use Rattle.rw_schema.specs.declared.parts.ArrowDef.{ArrowDef}
use Rattle.rw_schema.specs.Presentation.{ends_of_arrow}
use Rattle.rw_pattern.specs.PatternFaults.{is_in_range}
use Rattle.rw_pattern.proofs.Shapes.{test_fails, test_passes}
use Rattle.rw_pattern.proofs.range.have_images.Goals as goal

pub returns-then-not-are_below-clause-value : goal.returns-then-not-are_below-clause-value
returns-then-not-are_below-clause-value c =
    let arrow : ArrowDef = c.arrow-item.result in
    let arrows : List ArrowDef = c.args.schema.now.arrows in
    let within : c.loop-number.number < length arrows = rw (← c.arrow_list-arrow-items.ensures.value) c.loop-number-test.true in
    let is : arrow ≡ get_or arrows c.loop-number.number arrow = rw (← c.arrow_list-arrow-items.ensures.value) c.arrow-item.is in
    let fails : is_in_range c.args.pattern.now c.loop-number.number (ends_of_arrow arrow) ≡ false =
    rw (← c.row.ensures, ← c.size.ensures) (sym c.are_below.ensures ∙ c.if-not-are_below.true) in
    sym (c.loop-number.invariant
    ∙ test_fails (is_in_range c.args.pattern.now) ends_of_arrow arrows c.loop-number.number arrow within is fails)

pub loop-number-preserved : goal.loop-number-preserved
loop-number-preserved c =
    let arrow : ArrowDef = c.arrow-item.result in
    let arrows : List ArrowDef = c.args.schema.now.arrows in
    let within : c.loop-number.number < length arrows = rw (← c.arrow_list-arrow-items.ensures.value) c.loop-number-test.true in
    let is : arrow ≡ get_or arrows c.loop-number.number arrow = rw (← c.arrow_list-arrow-items.ensures.value) c.arrow-item.is in
    let passes : is_in_range c.args.pattern.now c.loop-number.number (ends_of_arrow arrow) ≡ true =
    rw (← c.row.ensures, ← c.size.ensures) (sym c.are_below.ensures ∙ c.if-not-are_below.false) in
    c.loop-number.invariant
    ∙ test_passes (is_in_range c.args.pattern.now) ends_of_arrow arrows c.loop-number.number arrow within is passes
