use Rattle.std.proofs.Common.{◌≡◌, ◌++◌, ℕ, List, [], ◌∷◌, length, get_or, slice_index, refl, arith}
use Rattle.std.proofs.lemmas.Grind.{common_steps}
use Rattle.rw_classes.proofs.Numbering.{numbered_root, numbered_child}
use Rattle.rw_classes.proofs.classes.number_trees.Goals as goal
use Rattle.rw_classes.proofs.classes.number_trees.Goals.{then-parent-x+in_ok-push+in_ok-push-2, else-parent-x+in_ok-push-3}

pub loop-x-preserved : goal.loop-x-preserved
loop-x-preserved c =
    let parents : List ℕ = c.args.parents.now in
    let x : ℕ = c.loop-x.x in
    let numbers : List ℕ = c.loop-x.numbers.items in
    let firsts : List ℕ = c.loop-x.firsts.items in
    elim c.if-parent-x.branch [
      | then-parent-x+in_ok-push+in_ok-push-2 w ↦
          let more : c.if-parent-x.numbers.items ≡ numbers ++ length firsts ∷ [] = grind (arith, common_steps) in
          let begun : c.if-parent-x.firsts.items ≡ firsts ++ x ∷ [] = grind (arith, common_steps) in
          rw (more, begun) (numbered_root parents x numbers firsts c.requires.descends c.loop-x-test.true w.if-parent-x.true c.loop-x.invariant)
      | else-parent-x+in_ok-push-3 w ↦
          let parent : ℕ = get_or parents x 0 in
          let more : c.if-parent-x.numbers.items ≡ numbers ++ slice_index numbers parent ∷ [] = grind (arith, common_steps) in
          let begun : c.if-parent-x.firsts.items ≡ firsts = grind (arith, common_steps) in
          rw (more, begun) (numbered_child parents x parent numbers firsts c.requires.descends c.loop-x-test.true refl w.if-parent-x.false c.loop-x.invariant)
    ]
