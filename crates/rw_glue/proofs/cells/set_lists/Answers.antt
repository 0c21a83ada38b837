-- The cells of one attribute more.
use Rattle.std.proofs.Common.{[], map}
use Rattle.rw_schema.specs.Presentation.{ends_of_attribute}
use Rattle.rw_columns.proofs.Filled.{all_more}
use Rattle.rw_glue.specs.inner.Sides.{AreSet}
use Rattle.rw_glue.proofs.Steps.{listed, holder_listed}
use Rattle.rw_glue.proofs.cells.set_lists.Goals as goal

pub size-size-requires : goal.size-size-requires
size-size-requires c =
    rw c.right.ensures (c.requires.sizes c.loop-place.place (ends_of_attribute c.index-attributes-place.result)
    (listed ends_of_attribute c.args.attributes.now c.loop-place.place c.index-attributes-place.result c.loop-place-test.true c.index-attributes-place.is))

pub loop-place-preserved : goal.loop-place-preserved
loop-place-preserved c =
    let holder = holder_listed c.args.attributes.now c.loop-place.place c.index-attributes-place.result c.loop-place-test.true c.index-attributes-place.is in
    all_more [] (AreSet (map ends_of_attribute c.args.attributes.now) c.args.rule.now c.args.values.now) c.loop-place.place
    (map (λ list. list.items) c.loop-place.cells.items) (map (λ list. list.items) c.add_list.new.lists.items) c.in_ok-set_cells.field-0.items c.in_ok-add_list.ensures c.loop-place.invariant
    (rw (holder) (rw (c.size-size.ensures, c.right.ensures) at c.in_ok-set_cells.ensures))
