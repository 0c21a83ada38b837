-- The match at the place stands behind those before it, where each condition has what it wants.
use Rattle.std.proofs.Common.{◌∙◌, ◌++◌, ◌∷◌, [], ℕ, List, cond, map, take, sym, ap}
use Rattle.rw_schema.specs.First.{flat_map_in}
use Rattle.rw_spec.proofs.Sequences.{flat_map_in_more}
use Rattle.rw_kept.specs.inner.Groups.{match_if_met}
use Rattle.rw_kept.proofs.admitted.admitted.Goals as goal

pub loop-place-preserved : goal.loop-place-preserved
loop-place-preserved c =
    let conditions = c.args.conditions.now in
    let groups = map (λ of_condition. map (λ group. group.items) of_condition.items) c.args.groups.now in
    let matches = c.args.matches.now in
    let place : ℕ = c.loop-place.place in
    let tuple : List ℕ = c.index-matches-place.result in
    c.in_ok-push_if.ensures
    ∙ ap (λ met. c.loop-place.list.items ++ cond met (tuple ∷ []) []) c.are_met_at.ensures
    ∙ ap (λ (front : List (List ℕ)). front ++ match_if_met conditions groups place tuple) c.loop-place.invariant
    ∙ ap (λ (m : List ℕ). flat_map_in (match_if_met conditions groups) 0 (take place matches) ++ match_if_met conditions groups place m) c.index-matches-place.is
    ∙ sym (flat_map_in_more (match_if_met conditions groups) matches place tuple c.loop-place-test.true)
