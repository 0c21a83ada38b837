-- One name more.
use Rattle.std.proofs.Common.{◌≡◌, ◌∙◌, ◌==◌, ℕ, List, [], ◌∷◌, ◌++◌, get_or, slice_index, sym, ap, inl, inr}
use Rattle.rw_glue.proofs.Steps.{differences_more}
use Rattle.std.proofs.lemmas.Bool.{eq-eqb, ne_eqb}
use Rattle.std.proofs.lemmas.List.{get_or_default}
use Rattle.rw_glue.proofs.names.moved_names.Goals.{then-new-name+in_ok-push, else-new-name}
use Rattle.rw_glue.proofs.names.moved_names.Goals as goal

pub loop-place-preserved : goal.loop-place-preserved
loop-place-preserved c d gives =
    let touched : List ℕ = c.args.touched.now in
    let place : ℕ = c.loop-place.place in
    let name : ℕ = get_or touched place 0 in
    let new : ℕ = slice_index c.args.names.now (slice_index c.args.numbers.now place) in
    let before : List (ℕ × ℕ) = c.loop-place.moved.items in
    let is : d name ≡ new = gives place c.loop-place-test.true in
    differences_more (λ one other. one == other) (λ x. x) d touched place name before c.if-new-name.moved.items c.loop-place-test.true
    (get_or_default touched place 0 name c.loop-place-test.true) (c.loop-place.invariant d gives)
    (elim c.if-new-name.branch [
      | then-new-name+in_ok-push w ↦ inl (
        ne_eqb name (d name) (λ same. w.if-new-name.true (sym is ∙ sym same)),
        ap (λ list. list.items) w.moved-is ∙ w.in_ok-push.ensures.items ∙ ap (λ (v : ℕ). before ++ (name, v) ∷ []) (sym is),
      )
      | else-new-name w ↦ inr (eq-eqb name (d name) (sym w.if-new-name.false ∙ sym is), ap (λ list. list.items) w.moved-is)
    ])
