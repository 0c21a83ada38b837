-- One empty group more, for one match more.
use Rattle.std.proofs.Common.{◌≡◌, ◌∙◌, ◌++◌, ◌∷◌, [], ℕ, List, map, take, sym, ap, arith, Vec, Global}
use Rattle.std.proofs.lemmas.Grind.{common_steps}
use Rattle.std.proofs.lemmas.List.{map_push, map_more}
use Rattle.rw_kept.proofs.groups.empty_groups.Goals as goal

pub loop-tuple-preserved : goal.loop-tuple-preserved
loop-tuple-preserved c =
    let items = λ (group : Vec (List ℕ) Global). group.items in
    let pushed : c.push.new.self.items ≡ c.loop-tuple.groups.items ++ c.new.result ∷ [] = grind (arith, common_steps) in
    ap (map items) pushed
    ∙ map_push items c.loop-tuple.groups.items c.new.result
    ∙ ap (λ (front : List (List (List ℕ))). front ++ c.new.result.items ∷ []) c.loop-tuple.invariant
    ∙ ap (λ (group : List (List ℕ)). map (λ (tuple : List ℕ). []) (take c.loop-tuple._tuple-index c.args.matches.now) ++ group ∷ []) c.new.ensures.items
    ∙ sym (map_more (λ (tuple : List ℕ). []) c.args.matches.now c.loop-tuple._tuple-index [] c.loop-tuple-test.true)
