-- The cell of one name more.
use Rattle.std.proofs.Common.{◌∙◌, ℕ, List, get_or, sym, ap, inl, inr}
use Rattle.rw_spec.specs.Instance.{Instance}
use Rattle.rw_columns.specs.Changes.{entry_names}
use Rattle.rw_delta.specs.ContextLists.{is_in}
use Rattle.std.proofs.lemmas.List.{get_or_default}
use Rattle.std.specs.Option.{option_eq}
use Rattle.rw_schema.specs.Atoms.{is_same_atom}
use Rattle.rw_glue.proofs.Steps.{filtered_more}
use Rattle.rw_glue.proofs.cell_changes.cell_changes.Goals.{then-not-is_moved+in_ok-add_change, else-not-is_moved}
use Rattle.rw_glue.proofs.cell_changes.cell_changes.Goals as goal

pub loop-place-preserved : goal.loop-place-preserved
loop-place-preserved g c new gives =
    let X : Instance = g.P.Probe.instance c.args.probe.now in
    let touched : List ℕ = c.args.touched.now in
    let place : ℕ = c.loop-place.place in
    let name : ℕ = get_or touched place 0 in
    filtered_more (option_eq is_same_atom) (X.cell c.args.attr.0) new (is_in (entry_names c.args.moved.now)) touched place name c.loop-place.changes.items c.if-not-is_moved.changes.items
    c.loop-place-test.true (get_or_default touched place 0 name c.loop-place-test.true) (c.loop-place.invariant new gives)
    (elim c.if-not-is_moved.branch [
      | then-not-is_moved+in_ok-add_change w ↦ inl (
        sym c.is_moved.ensures ∙ w.if-not-is_moved.true,
        ap (λ list. list.items) w.changes-is ∙ rw (w.cell-old.ensures.cell, w.class_cell.ensures, ← gives place c.loop-place-test.true) at w.in_ok-add_change.ensures,
      )
      | else-not-is_moved w ↦ inr (sym c.is_moved.ensures ∙ w.if-not-is_moved.false, ap (λ list. list.items) w.changes-is)
    ])
