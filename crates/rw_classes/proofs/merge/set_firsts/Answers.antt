use Rattle.std.proofs.Common.{◌≡◌, ◌&&◌, ◌++◌, ℕ, List, Option, None, is_some, is_none, length, slice_index, slice_index_or, ◌∙◌, sym}
use Rattle.rw_schema.specs.declared.atom.Atom.{Atom}
use Rattle.rw_classes.specs.Merging.{cell_at}
use Rattle.rw_classes.proofs.Merging.{firsts_set, firsts_kept}
use Rattle.rw_classes.proofs.merge.set_firsts.Goals as goal
use Rattle.rw_classes.proofs.merge.set_firsts.Goals.{then-begins, else-begins}

pub loop-place-preserved : goal.loop-place-preserved
loop-place-preserved c =
    let cells : ℕ → Option Atom = cell_at (c.args.left.now ++ c.args.right.now) in
    let numbers : List ℕ = c.args.numbers.now in
    let n : ℕ = c.loop-place.place in
    let firsts : List (Option ℕ) = c.loop-place.firsts in
    let class : ℕ = slice_index numbers n in
    let within : length firsts ≡ length c.args.firsts.now = c.loop-place.auto.firsts in
    let tested : c.begins.result ≡ (is_some (cells n) && is_none (slice_index_or firsts class None)) = rw c.cell.ensures at c.begins.ensures in
    elim c.if-begins.branch [
      | then-begins w ↦ rw w.firsts-is (firsts_set cells numbers n firsts (rw within (c.requires.within n 0 c.loop-place-test.true)) (sym tested ∙ w.if-begins.true) c.loop-place.invariant)
      | else-begins w ↦ rw w.firsts-is (firsts_kept cells numbers n firsts (sym tested ∙ w.if-begins.false) c.loop-place.invariant)
    ]
