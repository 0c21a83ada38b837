-- The cells of one attribute more.
use Rattle.std.proofs.Common.{[], map}
use Rattle.rw_schema.specs.Presentation.{ends_of_attribute}
use Rattle.rw_columns.proofs.Filled.{all_more}
use Rattle.rw_glue.specs.inner.Changed.{AreNewCells}
use Rattle.rw_glue.proofs.Steps.{listed, holder_listed}
use Rattle.rw_glue.proofs.added.new_cell_lists.Goals as goal

pub new_cells-requires-clause-object : goal.new_cells-requires-clause-object
new_cells-requires-clause-object c =
    (c.requires.holders c.loop-place.place (ends_of_attribute c.index-attributes-place.result)
    (listed ends_of_attribute c.args.attributes.now c.loop-place.place c.index-attributes-place.result c.loop-place-test.true c.index-attributes-place.is)).0

pub new_cells-requires-clause-parts : goal.new_cells-requires-clause-parts
new_cells-requires-clause-parts c =
    rw c.cells.ensures (c.requires.holders c.loop-place.place (ends_of_attribute c.index-attributes-place.result)
    (listed ends_of_attribute c.args.attributes.now c.loop-place.place c.index-attributes-place.result c.loop-place-test.true c.index-attributes-place.is)).1

pub loop-place-preserved : goal.loop-place-preserved
loop-place-preserved c =
    let holder = holder_listed c.args.attributes.now c.loop-place.place c.index-attributes-place.result c.loop-place-test.true c.index-attributes-place.is in
    all_more [] (AreNewCells (map ends_of_attribute c.args.attributes.now) c.args.rule.now c.args.right.now.cells) c.loop-place.place
    (map (λ list. list.items) c.loop-place.lists.items) (map (λ list. list.items) c.add_list.new.lists.items) c.in_ok-cells.cells.items c.in_ok-add_list.ensures c.loop-place.invariant
    (rw (holder) (rw (c.cells.ensures) at c.in_ok-cells.ensures))
