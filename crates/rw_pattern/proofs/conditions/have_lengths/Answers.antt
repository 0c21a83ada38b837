-- The row of an arrow is tested, and then those that are left.
use Rattle.std.proofs.Common.{◌≡◌, ◌∙◌, true, false, sym, arith, map, []}
use Rattle.rw_schema.specs.declared.parts.ArrowDef.{ArrowDef}
use Rattle.rw_schema.specs.Presentation.{ends_of_arrow}
use Rattle.rw_schema.specs.RowLists.{list_at}
use Rattle.rw_pattern.specs.PatternFaults.{has_length}
use Rattle.rw_pattern.specs.PatternLists.{PatternLists}
use Rattle.rw_pattern.proofs.Shapes.{row_is, test_fails, test_passes}
use Rattle.rw_pattern.proofs.conditions.have_lengths.Goals as goal

pub returns-then-not-has_images : goal.returns-then-not-has_images
returns-then-not-has_images c =
    let arrow : ArrowDef = c.index-arrows-number.result in
    let pattern : PatternLists = record { sizes = c.args.sizes.now; rows = map (λ row. row.items) c.args.rows.now; cells = []; holders = [] } in
    let row : list_at pattern.rows c.loop-number.number ≡ c.index-rows-number.result.items =
    row_is (λ row. row.items) c.args.rows.now c.loop-number.number c.index-rows-number.result (omega arith) c.index-rows-number.is in
    let fails : has_length pattern c.loop-number.number (ends_of_arrow arrow) ≡ false = rw (row, ← c.as_slice.ensures.value) (sym c.has_images.ensures ∙ c.if-not-has_images.true) in
    sym (c.loop-number.invariant
    ∙ test_fails (has_length pattern) ends_of_arrow c.args.arrows.now c.loop-number.number arrow c.loop-number-test.true c.index-arrows-number.is fails)

pub loop-number-preserved : goal.loop-number-preserved
loop-number-preserved c =
    let arrow : ArrowDef = c.index-arrows-number.result in
    let pattern : PatternLists = record { sizes = c.args.sizes.now; rows = map (λ row. row.items) c.args.rows.now; cells = []; holders = [] } in
    let row : list_at pattern.rows c.loop-number.number ≡ c.index-rows-number.result.items =
    row_is (λ row. row.items) c.args.rows.now c.loop-number.number c.index-rows-number.result (omega arith) c.index-rows-number.is in
    let passes : has_length pattern c.loop-number.number (ends_of_arrow arrow) ≡ true = rw (row, ← c.as_slice.ensures.value) (sym c.has_images.ensures ∙ c.if-not-has_images.false) in
    c.loop-number.invariant
    ∙ test_passes (has_length pattern) ends_of_arrow c.args.arrows.now c.loop-number.number arrow c.loop-number-test.true c.index-arrows-number.is passes
