-- The cells of one attribute more.
use Rattle.std.proofs.Common.{◌≡◌, ◌∙◌, ◌<◌, ℕ, List, [], Some, length, map, slice_get, slice_index, sym, ap, subst}
use Rattle.rw_schema.specs.declared.signature.AttrEnds.{AttrEnds}
use Rattle.rw_schema.specs.Presentation.{ends_of_attribute}
use Rattle.rw_schema.specs.RowLists.{list_at}
use Rattle.rw_schema.specs.Signature.{holder_of}
use Rattle.rw_columns.proofs.Filled.{all_more}
use Rattle.rw_classes.specs.ClassLists.{number_lists}
use Rattle.rw_glue.specs.inner.Changed.{AreCellChanges}
use Rattle.rw_glue.proofs.Steps.{listed, holder_listed}
use Rattle.std.proofs.lemmas.List.{length-map}
use Rattle.rw_schema.proofs.Lists.{list_at_map}
use Rattle.rw_classes.specs.declared.merge.Merged.{Merged}
use Rattle.rw_glue.specs.inner.Changed.{firsts_in}
use Rattle.rw_glue.proofs.cell_changes.cell_lists.Goals as goal

pub numbers_at-requires : goal.numbers_at-requires
numbers_at-requires g c =
    let known = subst (λ (all : List AttrEnds). slice_get all c.loop-place.place ≡ Some (ends_of_attribute c.index-attributes-place.result)) c.requires.known
    (listed ends_of_attribute c.args.attributes.now c.loop-place.place c.index-attributes-place.result c.loop-place-test.true c.index-attributes-place.is) in
    let can = c.requires.holders c.loop-place.place (ends_of_attribute c.index-attributes-place.result) known in
    rw (length-map c.args.classes.now (λ each. each.numbers.items)) at can.numbers_there

pub names-requires : goal.names-requires
names-requires g c =
    let known = subst (λ (all : List AttrEnds). slice_get all c.loop-place.place ≡ Some (ends_of_attribute c.index-attributes-place.result)) c.requires.known
    (listed ends_of_attribute c.args.attributes.now c.loop-place.place c.index-attributes-place.result c.loop-place-test.true c.index-attributes-place.is) in
    let can = c.requires.holders c.loop-place.place (ends_of_attribute c.index-attributes-place.result) known in
    can.touched_there

pub list_of-requires : goal.list_of-requires
list_of-requires g c =
    let known = subst (λ (all : List AttrEnds). slice_get all c.loop-place.place ≡ Some (ends_of_attribute c.index-attributes-place.result)) c.requires.known
    (listed ends_of_attribute c.args.attributes.now c.loop-place.place c.index-attributes-place.result c.loop-place-test.true c.index-attributes-place.is) in
    let can = c.requires.holders c.loop-place.place (ends_of_attribute c.index-attributes-place.result) known in
    rw (length-map c.args.moved.now (λ list. list.items)) at can.moved_there

pub cell_changes-requires-clause-names : goal.cell_changes-requires-clause-names
cell_changes-requires-clause-names g c =
    let known = subst (λ (all : List AttrEnds). slice_get all c.loop-place.place ≡ Some (ends_of_attribute c.index-attributes-place.result)) c.requires.known
    (listed ends_of_attribute c.args.attributes.now c.loop-place.place c.index-attributes-place.result c.loop-place-test.true c.index-attributes-place.is) in
    let can = c.requires.holders c.loop-place.place (ends_of_attribute c.index-attributes-place.result) known in
    let holder : holder_of (g.P.Probe.signature c.args.probe.now) c.loop-place.place ≡ c.index-attributes-place.result.object.0 =
    ap (λ (all : List AttrEnds). slice_index (map (λ (ends : AttrEnds). ends.object.0) all) c.loop-place.place) (sym c.requires.known)
    ∙ holder_listed c.args.attributes.now c.loop-place.place c.index-attributes-place.result c.loop-place-test.true c.index-attributes-place.is in
    rw (holder, c.names.ensures) can.names

pub cell_changes-requires-clause-ascend : goal.cell_changes-requires-clause-ascend
cell_changes-requires-clause-ascend g c =
    let known = subst (λ (all : List AttrEnds). slice_get all c.loop-place.place ≡ Some (ends_of_attribute c.index-attributes-place.result)) c.requires.known
    (listed ends_of_attribute c.args.attributes.now c.loop-place.place c.index-attributes-place.result c.loop-place-test.true c.index-attributes-place.is) in
    let can = c.requires.holders c.loop-place.place (ends_of_attribute c.index-attributes-place.result) known in
    rw (c.list_of.ensures) can.ascend

pub cell_changes-requires-clause-each : goal.cell_changes-requires-clause-each
cell_changes-requires-clause-each g c =
    let known = subst (λ (all : List AttrEnds). slice_get all c.loop-place.place ≡ Some (ends_of_attribute c.index-attributes-place.result)) c.requires.known
    (listed ends_of_attribute c.args.attributes.now c.loop-place.place c.index-attributes-place.result c.loop-place-test.true c.index-attributes-place.is) in
    let can = c.requires.holders c.loop-place.place (ends_of_attribute c.index-attributes-place.result) known in
    rw (c.names.ensures, c.numbers_at.ensures) can.each

pub loop-place-preserved : goal.loop-place-preserved
loop-place-preserved g c =
    let place : ℕ = c.loop-place.place in
    let merged : List Merged = c.args.merged.now in
    let within : place < length merged = rw c.requires.merged c.loop-place-test.true in
    let holder : holder_of (g.P.Probe.signature c.args.probe.now) c.loop-place.place ≡ c.index-attributes-place.result.object.0 =
    ap (λ (all : List AttrEnds). slice_index (map (λ (ends : AttrEnds). ends.object.0) all) c.loop-place.place) (sym c.requires.known)
    ∙ holder_listed c.args.attributes.now c.loop-place.place c.index-attributes-place.result c.loop-place-test.true c.index-attributes-place.is in
    let firsts : c.firsts_of.result.now ≡ list_at (map firsts_in merged) place =
    c.firsts_of.ensures ∙ ap firsts_in c.index-merged-place.is ∙ sym (list_at_map firsts_in merged place c.index-merged-place.result within) in
    all_more [] (AreCellChanges (g.P.Probe.signature c.args.probe.now) (g.P.Probe.instance c.args.probe.now) c.args.left.now c.args.right.now (number_lists c.args.classes.now) merged (map (λ list. list.items) c.args.moved.now))
    place (map (λ list. list.items) c.loop-place.lists.items) (map (λ list. list.items) c.add_list.new.lists.items) c.in_ok-changes.changes.items c.in_ok-add_list.ensures c.loop-place.invariant
    (rw (holder) (rw (firsts, c.numbers_at.ensures, c.cells.ensures, c.cells-in-loop-place.ensures, c.names.ensures, c.list_of.ensures) at c.in_ok-changes.ensures))
