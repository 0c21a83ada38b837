-- The name of a part that gives up an atom goes behind the others.
use Rattle.std.proofs.Common.{◌≡◌, ◌∙◌, ◌++◌, ◌∷◌, ℕ, Bool, true, false, List, [], append-nil, filter, map, ap, sym, subst}
use Rattle.std.specs.List.{range_with_len}
use Rattle.rw_spec.specs.Instance.{Has}
use Rattle.rw_pattern.specs.PatternLists.{PatternLists, size_of}
use Rattle.rw_dpo.specs.Contexts.{name_of_kept}
use Rattle.rw_dpo.specs.inner.Blank.{gives_up_atom}
use Rattle.rw_dpo.proofs.Ordered.{gathered_more}
use Rattle.rw_dpo.proofs.blank.names_given_up.Goals as goal
use Rattle.rw_dpo.proofs.blank.names_given_up.Goals.{then-gives_up+in_ok-push, else-gives_up}

pub gives_up-requires-clause-name : goal.gives_up-requires-clause-name
gives_up-requires-clause-name g c =
    let size : c.size-part-end.result ≡ size_of c.args.rule.now.keep c.args.object.0 =
    c.size-part-end.ensures ∙ ap (λ (keep : PatternLists). size_of keep c.args.object.0) c.keep.ensures in
    subst (Has (g.P.Probe.instance c.args.probe.now) c.args.object.0) (sym c.name_of_kept-name.ensures) (c.requires.names c.loop-part.part (rw (← size) c.loop-part-test.true))

pub loop-part-preserved : goal.loop-part-preserved
loop-part-preserved g c =
    let part : ℕ = c.loop-part.part in
    let name : ℕ → ℕ = name_of_kept c.args.rule.now c.args.tuple.now c.args.object.0 in
    let test : ℕ → Bool = gives_up_atom c.args.rule.now c.args.tuple.now (g.P.Probe.instance c.args.probe.now) c.args.object.0 c.args.attribute.0 in
    elim c.if-gives_up.branch [
      | then-gives_up+in_ok-push w ↦
          let here : test part ≡ true = rw c.name_of_kept-name.ensures at (sym w.if-gives_up.ensures) in
          ap (λ v. v.items) w.names-is ∙ w.in_ok-push.ensures.items ∙ ap (λ (names : List ℕ). names ++ c.name_of_kept-name.result ∷ []) c.loop-part.invariant
          ∙ ap (λ (named : ℕ). map name (filter test (range_with_len 0 part)) ++ named ∷ []) c.name_of_kept-name.ensures
          ∙ sym (gathered_more name test part true here)
      | else-gives_up w ↦
          let here : test part ≡ false = rw c.name_of_kept-name.ensures at (sym w.if-gives_up.ensures) in
          ap (λ v. v.items) w.names-is ∙ c.loop-part.invariant ∙ sym (append-nil (map name (filter test (range_with_len 0 part))))
          ∙ sym (gathered_more name test part false here)
    ]
