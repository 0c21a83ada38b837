-- A map over the items of a list so far, with one item more.
use Rattle.std.proofs.Common.{◌≡◌, ℕ, ◌+◌, ◌<◌, List, [], ◌∷◌, ◌++◌, map, length, get_or, take, sym, ap, ◌∙◌}
use Rattle.std.proofs.lemmas.List.{get_or-map, length-map, map_push, take_more}
use Rattle.rw_schema.specs.First.{map_in}
use Rattle.rw_schema.proofs.Lists.{map_in_more}

-- the image of the next item goes behind the others
pub mapped_more : {X Y : Type 0} (f : X → Y) (xs : List X) (place : ℕ) (x : X) (ys : List Y) (y : Y) → place < length xs → x ≡ get_or xs place x
    → ys ≡ map f (take place xs) → y ≡ f x → ys ++ y ∷ [] ≡ map f (take (place + 1) xs)
mapped_more f xs place x ys y within here are is =
    ap (λ ys. ys ++ y ∷ []) are ∙ ap (λ y. map f (take place xs) ++ y ∷ []) (is ∙ ap f here)
    ∙ sym (map_push f (take place xs) (get_or xs place x)) ∙ sym (ap (map f) (take_more xs place x within))

-- what f gives of the next place and what h gives of the item there goes behind the others
pub mapped_in_more : {X Y Z : Type 0} (f : ℕ → Y → Z) (h : X → Y) (xs : List X) (place : ℕ) (x : X) (zs : List Z) (z : Z) → place < length xs
    → x ≡ get_or xs place x → zs ≡ map_in f 0 (take place (map h xs)) → z ≡ f place (h x) → zs ++ z ∷ [] ≡ map_in f 0 (take (place + 1) (map h xs))
mapped_in_more f h xs place x zs z within here are is =
    let there : h x ≡ get_or (map h xs) place (h x) = sym (get_or-map h xs place x (h x) within ∙ ap h (sym here)) in
    ap (λ zs. zs ++ z ∷ []) are ∙ ap (λ z. map_in f 0 (take place (map h xs)) ++ z ∷ []) is
    ∙ sym (map_in_more f (map h xs) place (h x) (rw (length-map xs h) within) there)
