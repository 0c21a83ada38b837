-- The row of one name more.
use Rattle.std.proofs.Common.{◌≡◌, ◌∙◌, ◌==◌, ℕ, List, [], ◌∷◌, ◌++◌, get_or, sym, ap, inl, inr}
use Rattle.rw_spec.specs.Instance.{Instance}
use Rattle.rw_columns.specs.Changes.{beside}
use Rattle.rw_glue.proofs.Steps.{differences_more}
use Rattle.std.proofs.lemmas.Bool.{eq-eqb, ne_eqb}
use Rattle.std.proofs.lemmas.List.{get_or_default}
use Rattle.rw_glue.proofs.row_changes.redirections.Goals.{then-new-old+in_ok-push, else-new-old}
use Rattle.rw_glue.proofs.row_changes.redirections.Goals as goal

pub loop-name-preserved : goal.loop-name-preserved
loop-name-preserved g c =
    let X : Instance = g.P.Probe.instance c.args.probe.now in
    let names : List ℕ = c.args.names.now in
    let moved : List (ℕ × ℕ) = c.args.moved.now in
    let a : ℕ = c.args.arrow.0 in
    let place : ℕ = c.loop-name.name-index in
    let name : ℕ = get_or names place 0 in
    let before : List (ℕ × ℕ) = c.loop-name.row.items in
    let old_is : c.value-old.result ≡ X.value a name = c.value-old.ensures.value in
    let new_is : c.new_name-new.result ≡ beside (X.value a name) moved (X.value a name) = c.new_name-new.ensures ∙ ap (λ (v : ℕ). beside v moved v) old_is in
    differences_more (λ one other. one == other) (X.value a) (λ x. beside (X.value a x) moved (X.value a x)) names place name before c.if-new-old.row.items c.loop-name-test.true
    (get_or_default names place 0 name c.loop-name-test.true) c.loop-name.invariant
    (elim c.if-new-old.branch [
      | then-new-old+in_ok-push w ↦ inl (
        ne_eqb (X.value a name) (beside (X.value a name) moved (X.value a name)) (λ same. w.if-new-old.true (new_is ∙ sym same ∙ sym old_is)),
        ap (λ list. list.items) w.row-is ∙ w.in_ok-push.ensures.items ∙ ap (λ (v : ℕ). before ++ (name, v) ∷ []) new_is,
      )
      | else-new-old w ↦ inr (
        eq-eqb (X.value a name) (beside (X.value a name) moved (X.value a name)) (sym old_is ∙ sym w.if-new-old.false ∙ new_is),
        ap (λ list. list.items) w.row-is,
      )
    ])
