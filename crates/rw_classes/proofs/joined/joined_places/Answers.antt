-- One pair of images more.
use Rattle.std.proofs.Common.{◌≡◌, ◌∙◌, ◌+◌, ◌<◌, ℕ, List, [], ◌∷◌, ◌++◌, get_or, length, take, sym, arith}
use Rattle.std.proofs.lemmas.Grind.{common_steps}
use Rattle.std.proofs.lemmas.List.{get_or_default}
use Rattle.rw_schema.proofs.Lists.{map_in_more}
use Rattle.rw_classes.specs.Places.{spot}
use Rattle.rw_classes.specs.ClassLists.{joined}
use Rattle.rw_classes.proofs.joined.joined_places.Goals as goal

-- the places of one pair of images more
joined_more : (left right images others : List ℕ) (k : ℕ) (places : List (ℕ × ℕ)) (pair : ℕ × ℕ) → k < length images
    → places ≡ joined left right (take k images) others → pair ≡ (spot left (get_or images k 0), length left + spot right (get_or others k 0))
    → places ++ pair ∷ [] ≡ joined left right (take (k + 1) images) others
joined_more left right images others k places pair within so_far is =
    rw (so_far, is)
    (sym (map_in_more (λ k x. (spot left x, length left + spot right (get_or others k 0))) images k (get_or images k 0) within (get_or_default images k 0 (get_or images k 0) within)))

pub loop-index-preserved : goal.loop-index-preserved
loop-index-preserved c =
    let pushed : c.push.new.self.items ≡ c.loop-index.places.items ++ c.joined_place.result ∷ [] = grind (arith, common_steps) in
    pushed ∙ joined_more c.args.left.now c.args.right.now c.args.left_images.now c.args.right_images.now c.loop-index.index c.loop-index.places.items
    c.joined_place.result c.loop-index-test.true c.loop-index.invariant c.joined_place.ensures
