use Rattle.std.proofs.Common.{ℕ, List, get_or, set, refl, ◌∙◌, arith}
use Rattle.std.proofs.lemmas.List.{length-set}
use Rattle.rw_classes.specs.inner.Links.{IsShortened}
use Rattle.rw_classes.proofs.Links.{halved, beyond_shared, shortened_more}
use Rattle.rw_classes.proofs.classes.root.Goals as goal

-- one step up shortens the way and stays in the tree
pub loop-parents-preserved : goal.loop-parents-preserved
loop-parents-preserved c =
    let parents : List ℕ = c.loop-parents.parents in
    let place : ℕ = c.loop-parents.at in
    let parent : ℕ = get_or parents place 0 in
    let beyond : ℕ = get_or parents parent 0 in
    let before : IsShortened c.args.parents.now parents = c.loop-parents.invariant.shortened in
    let step : IsShortened parents (set parents place beyond) =
    halved parents place parent beyond before.descends c.loop-parents.invariant.within refl refl c.loop-parents-test.true in
    record {
      shortened = shortened_more c.args.parents.now parents (set parents place beyond) before step;
      within = rw (length-set parents place beyond) (omega (arith, before.descends place c.loop-parents.invariant.within, before.descends parent));
      shared = λ h follows.
          beyond_shared h parents place parent beyond before.descends c.loop-parents.invariant.within refl refl (step.back h follows)
          ∙ c.loop-parents.invariant.shared h (step.back h follows);
    }
