-- A new part goes behind the others.
use Rattle.std.proofs.Common.{◌≡◌, ℕ, Bool, true, false, not, ◌∙◌, ap, sym, append-nil, List, [], ◌∷◌, ◌++◌, filter}
use Rattle.std.specs.List.{range_with_len}
use Rattle.rw_rule.specs.Images.{is_image}
use Rattle.rw_redex.proofs.Ranges.{filter_more}
use Rattle.rw_redex.proofs.growth.new_parts.Goals as goal
use Rattle.rw_redex.proofs.growth.new_parts.Goals.{then-is_new+in_ok-push, else-is_new}

pub loop-part-preserved : goal.loop-part-preserved
loop-part-preserved c =
    let part : ℕ = c.loop-part.part in
    let test : ℕ → Bool = λ part. not (is_image c.args.rule.now.r c.args.object.0 part) in
    elim c.if-is_new.branch [
      | then-is_new+in_ok-push w ↦
          let here : test part ≡ true = sym w.if-is_new.ensures in
          ap (λ v. v.items) w.parts-is ∙ w.in_ok-push.ensures.items ∙ ap (λ (parts : List ℕ). parts ++ part ∷ []) c.loop-part.invariant
          ∙ sym (filter_more test part true here)
      | else-is_new w ↦
          let here : test part ≡ false = sym w.if-is_new.ensures in
          ap (λ v. v.items) w.parts-is ∙ c.loop-part.invariant ∙ sym (append-nil (filter test (range_with_len 0 part)))
          ∙ sym (filter_more test part false here)
    ]
