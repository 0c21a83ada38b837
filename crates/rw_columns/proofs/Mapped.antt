-- One item of a list is replaced, and something is read of each.
use Rattle.std.proofs.Common.{◌≡◌, ◌≢◌, ◌∙◌, ℕ, ◌<◌, List, length, map, get_or, set, sym, ap, arith}
use Rattle.std.proofs.lemmas.List.{length-map, map-set, get_or-map, get_or-set_same, get_or-set_other}

-- at its place it is read of the new item
pub mapped_here : {X A : Type 0} (f : X → A) (list : List X) (place : ℕ) (item : X) (none : A) → place < length list
    → get_or (map f (set list place item)) place none ≡ f item
mapped_here f list place item none within =
    let there : place < length (map f list) = omega (arith, length-map list f, within) in
    rw (map-set f list place item) (get_or-set_same (map f list) place (f item) none there)

-- at another it is as before
pub mapped_other : {X A : Type 0} (f : X → A) (list : List X) (place other : ℕ) (item : X) (none : A) → other ≢ place
    → get_or (map f (set list place item)) other none ≡ get_or (map f list) other none
mapped_other f list place other item none apart =
    rw (map-set f list place item) (get_or-set_other (map f list) place other (f item) none apart)

-- what is read of an item, at its place
pub mapped_at : {X A : Type 0} (f : X → A) (list : List X) (place : ℕ) (item : X) (none : A) → place < length list → item ≡ get_or list place item
    → get_or (map f list) place none ≡ f item
mapped_at f list place item none within is = get_or-map f list place item none within ∙ ap f (sym is)
