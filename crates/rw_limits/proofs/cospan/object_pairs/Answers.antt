-- One list of pairs more, for one object more.
use Rattle.std.proofs.Common.{◌≡◌, ◌∙◌, ◌++◌, ◌∷◌, [], ℕ, arith, Vec, Global}
use Rattle.std.proofs.lemmas.Grind.{common_steps}
use Rattle.rw_limits.specs.Pairs.{pairs_at}
use Rattle.rw_limits.specs.inner.RowCospans.{cospan_in}
use Rattle.rw_limits.proofs.ListsMade.{list_pushed_at}
use Rattle.rw_limits.proofs.cospan.object_pairs.Goals as goal

pub loop-place-preserved : goal.loop-place-preserved
loop-place-preserved c =
    let list = c.in_ok-agreeing_pairs.field-0 in
    let pushed : c.push.new.self.items ≡ c.loop-place.pairs.items ++ list ∷ [] = grind (arith, common_steps) in
    list_pushed_at (λ (list : Vec (ℕ × ℕ) Global). list.items) (pairs_at (cospan_in c.args.cospan.now)) c.loop-place.place
    c.loop-place.pairs.items c.push.new.self.items list c.loop-place.invariant pushed (c.in_ok-agreeing_pairs.ensures ∙ c.sides_of-sides.ensures.pairs)
