-- The cells of one attribute more.
use Rattle.std.proofs.Common.{◌≡◌, ◌∙◌, List, [], Some, map, slice_get, slice_index, sym, ap, subst}
use Rattle.rw_schema.specs.declared.signature.AttrEnds.{AttrEnds}
use Rattle.rw_schema.specs.Presentation.{ends_of_attribute}
use Rattle.rw_schema.specs.Signature.{holder_of}
use Rattle.rw_columns.proofs.Filled.{all_more}
use Rattle.rw_glue.specs.inner.Sides.{AreHeld}
use Rattle.rw_glue.proofs.Steps.{listed, holder_listed}
use Rattle.rw_glue.proofs.cells.held_lists.Goals as goal

pub list_of-names-requires : goal.list_of-names-requires
list_of-names-requires g c =
    let known = subst (λ (all : List AttrEnds). slice_get all c.loop-place.place ≡ Some (ends_of_attribute c.index-attributes-place.result)) c.requires.known
    (listed ends_of_attribute c.args.attributes.now c.loop-place.place c.index-attributes-place.result c.loop-place-test.true c.index-attributes-place.is) in
    let can = c.requires.touched c.loop-place.place (ends_of_attribute c.index-attributes-place.result) known in
    can.0

pub held_cells-requires-clause-names : goal.held_cells-requires-clause-names
held_cells-requires-clause-names g c =
    let known = subst (λ (all : List AttrEnds). slice_get all c.loop-place.place ≡ Some (ends_of_attribute c.index-attributes-place.result)) c.requires.known
    (listed ends_of_attribute c.args.attributes.now c.loop-place.place c.index-attributes-place.result c.loop-place-test.true c.index-attributes-place.is) in
    let can = c.requires.touched c.loop-place.place (ends_of_attribute c.index-attributes-place.result) known in
    let holder : holder_of (g.P.Probe.signature c.args.probe.now) c.loop-place.place ≡ c.index-attributes-place.result.object.0 =
    ap (λ (all : List AttrEnds). slice_index (map (λ (ends : AttrEnds). ends.object.0) all) c.loop-place.place) (sym c.requires.known)
    ∙ holder_listed c.args.attributes.now c.loop-place.place c.index-attributes-place.result c.loop-place-test.true c.index-attributes-place.is in
    rw (holder, c.list_of-names.ensures) can.1

pub loop-place-preserved : goal.loop-place-preserved
loop-place-preserved g c =
    let holder : holder_of (g.P.Probe.signature c.args.probe.now) c.loop-place.place ≡ c.index-attributes-place.result.object.0 =
    ap (λ (all : List AttrEnds). slice_index (map (λ (ends : AttrEnds). ends.object.0) all) c.loop-place.place) (sym c.requires.known)
    ∙ holder_listed c.args.attributes.now c.loop-place.place c.index-attributes-place.result c.loop-place-test.true c.index-attributes-place.is in
    all_more [] (AreHeld (g.P.Probe.signature c.args.probe.now) (g.P.Probe.instance c.args.probe.now) (map (λ list. list.items) c.args.blank.now) (map (λ list. list.items) c.args.touched.now)) c.loop-place.place
    (map (λ list. list.items) c.loop-place.cells.items) (map (λ list. list.items) c.add_list.new.lists.items) c.in_ok-held.held.items c.in_ok-add_list.ensures c.loop-place.invariant
    (rw (holder) (rw (c.list_of.ensures, c.list_of-names.ensures) at c.in_ok-held.ensures))
