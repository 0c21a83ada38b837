use Rattle.std.proofs.Common.{ℕ, List, [], ◌∷◌, take, get_or}
use Rattle.std.proofs.lemmas.List.{take_more}
use Rattle.rw_classes.proofs.Links.{united_more}
use Rattle.rw_classes.proofs.classes.unite_all.Goals as goal

pub loop-pair-preserved : goal.loop-pair-preserved
loop-pair-preserved c =
    let pairs : List (ℕ × ℕ) = c.args.pairs.now in
    let i : ℕ = c.loop-pair.pair-index in
    let pair : ℕ × ℕ = get_or pairs i (0, 0) in
    rw (take_more pairs i (0, 0) c.loop-pair-test.true)
    (united_more (take i pairs) (pair ∷ []) c.args.parents.now c.loop-pair.parents c.unite.new.parents c.loop-pair.invariant c.unite.ensures)
