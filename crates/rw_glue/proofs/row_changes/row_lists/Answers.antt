-- The row of one arrow more.
use Rattle.std.proofs.Common.{◌≡◌, ◌∙◌, List, [], Some, map, slice_get, slice_index, sym, ap, subst}
use Rattle.rw_schema.specs.declared.signature.ArrowEnds.{ArrowEnds}
use Rattle.rw_schema.specs.Presentation.{ends_of_arrow}
use Rattle.rw_schema.specs.Signature.{source_of}
use Rattle.rw_spec.specs.Ends.{target_of}
use Rattle.rw_columns.proofs.Filled.{all_more}
use Rattle.rw_glue.specs.inner.Changed.{AreRowChanges}
use Rattle.rw_glue.proofs.Steps.{listed, source_listed, target_listed}
use Rattle.rw_glue.proofs.row_changes.row_lists.Goals as goal

pub list_of-requires : goal.list_of-requires
list_of-requires g c =
    let known = subst (λ (all : List ArrowEnds). slice_get all c.loop-place.place ≡ Some (ends_of_arrow c.index-arrows-place.result)) c.requires.known
    (listed ends_of_arrow c.args.arrows.now c.loop-place.place c.index-arrows-place.result c.loop-place-test.true c.index-arrows-place.is) in
    let can = c.requires.ends c.loop-place.place (ends_of_arrow c.index-arrows-place.result) known in
    can.0

pub list_of-requires-in-loop-place : goal.list_of-requires-in-loop-place
list_of-requires-in-loop-place g c =
    let known = subst (λ (all : List ArrowEnds). slice_get all c.loop-place.place ≡ Some (ends_of_arrow c.index-arrows-place.result)) c.requires.known
    (listed ends_of_arrow c.args.arrows.now c.loop-place.place c.index-arrows-place.result c.loop-place-test.true c.index-arrows-place.is) in
    let can = c.requires.ends c.loop-place.place (ends_of_arrow c.index-arrows-place.result) known in
    can.1

pub row_changes-requires-clause-targets : goal.row_changes-requires-clause-targets
row_changes-requires-clause-targets g c =
    let known = subst (λ (all : List ArrowEnds). slice_get all c.loop-place.place ≡ Some (ends_of_arrow c.index-arrows-place.result)) c.requires.known
    (listed ends_of_arrow c.args.arrows.now c.loop-place.place c.index-arrows-place.result c.loop-place-test.true c.index-arrows-place.is) in
    let can = c.requires.ends c.loop-place.place (ends_of_arrow c.index-arrows-place.result) known in
    let target : target_of (g.P.Probe.signature c.args.probe.now) c.loop-place.place ≡ c.index-arrows-place.result.target.0 =
    ap (λ (all : List ArrowEnds). slice_index (map (λ (ends : ArrowEnds). ends.target.0) all) c.loop-place.place) (sym c.requires.known)
    ∙ target_listed c.args.arrows.now c.loop-place.place c.index-arrows-place.result c.loop-place-test.true c.index-arrows-place.is in
    rw (target, c.list_of-in-loop-place.ensures) can.2

pub row_changes-requires-clause-ascend : goal.row_changes-requires-clause-ascend
row_changes-requires-clause-ascend g c =
    let known = subst (λ (all : List ArrowEnds). slice_get all c.loop-place.place ≡ Some (ends_of_arrow c.index-arrows-place.result)) c.requires.known
    (listed ends_of_arrow c.args.arrows.now c.loop-place.place c.index-arrows-place.result c.loop-place-test.true c.index-arrows-place.is) in
    let can = c.requires.ends c.loop-place.place (ends_of_arrow c.index-arrows-place.result) known in
    rw (c.list_of-in-loop-place.ensures) can.3

pub loop-place-preserved : goal.loop-place-preserved
loop-place-preserved g c =
    let source : source_of (g.P.Probe.signature c.args.probe.now) c.loop-place.place ≡ c.index-arrows-place.result.source.0 =
    ap (λ (all : List ArrowEnds). slice_index (map (λ (ends : ArrowEnds). ends.source.0) all) c.loop-place.place) (sym c.requires.known)
    ∙ source_listed c.args.arrows.now c.loop-place.place c.index-arrows-place.result c.loop-place-test.true c.index-arrows-place.is in
    let target : target_of (g.P.Probe.signature c.args.probe.now) c.loop-place.place ≡ c.index-arrows-place.result.target.0 =
    ap (λ (all : List ArrowEnds). slice_index (map (λ (ends : ArrowEnds). ends.target.0) all) c.loop-place.place) (sym c.requires.known)
    ∙ target_listed c.args.arrows.now c.loop-place.place c.index-arrows-place.result c.loop-place-test.true c.index-arrows-place.is in
    all_more [] (AreRowChanges (g.P.Probe.signature c.args.probe.now) (g.P.Probe.instance c.args.probe.now) (map (λ list. list.items) c.args.removed.now) (map (λ list. list.items) c.args.moved.now)) c.loop-place.place
    (map (λ list. list.items) c.loop-place.rows.items) (map (λ list. list.items) c.add_list.new.lists.items) c.in_ok-row.row.items c.in_ok-add_list.ensures c.loop-place.invariant
    (rw (source, target) (rw (c.list_of.ensures, c.list_of-in-loop-place.ensures) at c.in_ok-row.ensures))
