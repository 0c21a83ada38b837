-- The row of one arrow more.
use Rattle.std.proofs.Common.{[], map}
use Rattle.rw_schema.specs.Presentation.{ends_of_arrow}
use Rattle.rw_columns.proofs.Filled.{all_more}
use Rattle.rw_glue.specs.inner.Changed.{AreNewRows}
use Rattle.rw_glue.proofs.Steps.{listed, source_listed, target_listed}
use Rattle.std.proofs.lemmas.List.{length-map}
use Rattle.rw_glue.proofs.added.new_row_lists.Goals as goal

pub row-requires : goal.row-requires
row-requires c =
    let can = c.requires.arrows c.loop-place.place (ends_of_arrow c.index-arrows-place.result)
    (listed ends_of_arrow c.args.arrows.now c.loop-place.place c.index-arrows-place.result c.loop-place-test.true c.index-arrows-place.is) in
    rw c.right.ensures can.row

pub list_of-requires : goal.list_of-requires
list_of-requires c =
    let can = c.requires.arrows c.loop-place.place (ends_of_arrow c.index-arrows-place.result)
    (listed ends_of_arrow c.args.arrows.now c.loop-place.place c.index-arrows-place.result c.loop-place-test.true c.index-arrows-place.is) in
    rw (length-map c.args.placed.now (λ list. list.items)) at can.target

pub new_row-requires-clause-source : goal.new_row-requires-clause-source
new_row-requires-clause-source c =
    let can = c.requires.arrows c.loop-place.place (ends_of_arrow c.index-arrows-place.result)
    (listed ends_of_arrow c.args.arrows.now c.loop-place.place c.index-arrows-place.result c.loop-place-test.true c.index-arrows-place.is) in
    can.source

pub new_row-requires-clause-parts : goal.new_row-requires-clause-parts
new_row-requires-clause-parts c =
    let can = c.requires.arrows c.loop-place.place (ends_of_arrow c.index-arrows-place.result)
    (listed ends_of_arrow c.args.arrows.now c.loop-place.place c.index-arrows-place.result c.loop-place-test.true c.index-arrows-place.is) in
    rw (c.row.ensures, c.right.ensures) can.parts

pub new_row-requires-clause-values : goal.new_row-requires-clause-values
new_row-requires-clause-values c =
    let can = c.requires.arrows c.loop-place.place (ends_of_arrow c.index-arrows-place.result)
    (listed ends_of_arrow c.args.arrows.now c.loop-place.place c.index-arrows-place.result c.loop-place-test.true c.index-arrows-place.is) in
    rw (c.row.ensures, c.right.ensures, c.list_of.ensures) can.values

pub loop-place-preserved : goal.loop-place-preserved
loop-place-preserved c =
    let arrows = c.args.arrows.now in
    let place = c.loop-place.place in
    let arrow = c.index-arrows-place.result in
    let source = source_listed arrows place arrow c.loop-place-test.true c.index-arrows-place.is in
    let target = target_listed arrows place arrow c.loop-place-test.true c.index-arrows-place.is in
    all_more [] (AreNewRows (map ends_of_arrow arrows) c.args.rule.now (map (λ list. list.items) c.args.placed.now)) place
    (map (λ list. list.items) c.loop-place.lists.items) (map (λ list. list.items) c.add_list.new.lists.items) c.in_ok-row.row.items c.in_ok-add_list.ensures c.loop-place.invariant
    (rw (source, target) (rw (c.row.ensures, c.right.ensures, c.list_of.ensures) at c.in_ok-row.ensures))
