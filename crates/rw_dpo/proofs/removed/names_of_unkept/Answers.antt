-- The name of a part that is not kept goes behind the others.
use Rattle.std.proofs.Common.{◌≡◌, ◌∙◌, ◌++◌, ◌∷◌, ℕ, Bool, true, false, not, List, [], append-nil, filter, map, ap, sym}
use Rattle.std.specs.List.{range_with_len}
use Rattle.rw_pattern.specs.PatternLists.{map_of_tuple}
use Rattle.rw_rule.specs.Images.{is_image}
use Rattle.rw_dpo.proofs.Ordered.{gathered_more}
use Rattle.rw_dpo.proofs.removed.names_of_unkept.Goals as goal
use Rattle.rw_dpo.proofs.removed.names_of_unkept.Goals.{then-not-is_kept+in_ok-push, else-not-is_kept}

pub loop-part-preserved : goal.loop-part-preserved
loop-part-preserved c =
    let part : ℕ = c.loop-part.part in
    let name : ℕ → ℕ = map_of_tuple c.args.rule.now.goal.left c.args.tuple.now c.args.object.0 in
    let test : ℕ → Bool = λ part. not (is_image c.args.rule.now.l c.args.object.0 part) in
    elim c.if-not-is_kept.branch [
      | then-not-is_kept+in_ok-push w ↦
          let here : test part ≡ true = ap not (sym c.is_kept.ensures ∙ w.if-not-is_kept.true) in
          ap (λ v. v.items) w.names-is ∙ w.in_ok-push.ensures.items ∙ ap (λ (names : List ℕ). names ++ w.name_of_left.result ∷ []) c.loop-part.invariant
          ∙ ap (λ (named : ℕ). map name (filter test (range_with_len 0 part)) ++ named ∷ []) w.name_of_left.ensures
          ∙ sym (gathered_more name test part true here)
      | else-not-is_kept w ↦
          let here : test part ≡ false = ap not (sym c.is_kept.ensures ∙ w.if-not-is_kept.false) in
          ap (λ v. v.items) w.names-is ∙ c.loop-part.invariant ∙ sym (append-nil (map name (filter test (range_with_len 0 part))))
          ∙ sym (gathered_more name test part false here)
    ]
