-- A new part is counted.
use Rattle.std.proofs.Common.{◌≡◌, ℕ, Bool, true, false, not, sym, arith}
use Rattle.rw_rule.specs.Images.{is_image}
use Rattle.rw_redex.proofs.Ranges.{count_more}
use Rattle.rw_redex.proofs.growth.new_before.Goals as goal
use Rattle.rw_redex.proofs.growth.new_before.Goals.{then-is_new, else-is_new}

pub loop-other-preserved : goal.loop-other-preserved
loop-other-preserved c =
    let other : ℕ = c.loop-other.other in
    let test : ℕ → Bool = λ part. not (is_image c.args.rule.now.r c.args.object.0 part) in
    elim c.if-is_new.branch [
      | then-is_new w ↦
          let here : test other ≡ true = sym w.if-is_new.ensures in
          record { counted = omega (arith, count_more test other true here); few = omega arith }
      | else-is_new w ↦
          let here : test other ≡ false = sym w.if-is_new.ensures in
          record { counted = omega (arith, count_more test other false here); few = omega arith }
    ]
