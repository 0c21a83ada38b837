-- The group at the place has the tuple at its end.
use Rattle.std.proofs.Common.{◌≡◌, ◌∙◌, ◌++◌, ◌∷◌, [], map, slice_set, ℕ, List, ap, sym, Vec, Global, arith}
use Rattle.std.proofs.lemmas.Grind.{common_steps}
use Rattle.std.proofs.lemmas.List.{map-set, get_or-map}
use Rattle.rw_kept.specs.inner.Groups.{group_at}
use Rattle.rw_kept.proofs.groups.add.Goals as goal

pub returns : goal.returns
returns c =
    let groups = c.args.groups.now in
    let place = c.args.place in
    let items = λ (group : Vec (List ℕ) Global). group.items in
    let group = c.index-groups-place.result in
    let pushed : c.push.new.self.items ≡ group.items ++ c.args.tuple ∷ [] = grind (arith, common_steps) in
    let there : group_at (map items groups) place ≡ group.items = get_or-map items groups place group [] c.requires ∙ ap items (sym c.index-groups-place.is) in
    map-set items groups place c.push.new.self
    ∙ ap (λ new. slice_set (map items groups) place new) (pushed ∙ ap (λ old. old ++ c.args.tuple ∷ []) (sym there))
