-- The list of one object more.
use Rattle.std.proofs.Common.{◌≡◌, ◌∙◌, ◌++◌, ◌∷◌, [], ℕ, Vec, Global, map, ap, arith}
use Rattle.std.proofs.lemmas.List.{map-append}
use Rattle.rw_columns.proofs.Filled.{all_more}
use Rattle.rw_delta.specs.inner.Gathered.{AreJoined}
use Rattle.rw_delta.proofs.ordered.joined_lists.Goals as goal

pub loop-place-preserved : goal.loop-place-preserved
loop-place-preserved c =
    let items = λ (list : Vec ℕ Global). list.items in
    let names = c.in_ok-joined.field-0 in
    let pushed : c.push.new.self.items ≡ c.loop-place.lists.items ++ names ∷ [] = grind arith in
    all_more [] (AreJoined (map items c.args.first.now) (map items c.args.second.now)) c.loop-place.place (map items c.loop-place.lists.items) (map items c.push.new.self.items) names.items
    (ap (map items) pushed ∙ map-append items c.loop-place.lists.items (names ∷ [])) c.loop-place.invariant
    (rw (c.list_of.ensures, c.list_of-in-loop-place.ensures) at c.in_ok-joined.ensures)
