-- Ascending lists: mapped, and told by what they contain.
use Rattle.std.proofs.Common.{◌≡◌, ◌<◌, ℕ, true, map, List, [], ◌∷◌, Contains, refl, subst}
use Rattle.std.specs.Ordering.{nat_cmp}
use Rattle.std.proofs.lemmas.Cmp.{nat_cmp_total}
use Rattle.rw_spec.specs.Ascending.{ascends}
use Rattle.rw_spec.proofs.Ascending.{ascends_behind, ascends_rest, first_below}
use Rattle.rw_spec.proofs.OneOrder.{one_order}
use Rattle.rw_spec.proofs.Sequences.{contains_here, contains_later, contained_in_map}
use Rattle.rw_spec.proofs.TuplesAscend.{sorted_from_ascends}

-- the images of ascending numbers ascend, where the order is kept
pub ascends_map : (f : ℕ → ℕ) (xs : List ℕ) → ((x y : ℕ) → Contains xs x → Contains xs y → x < y → f x < f y) → ascends xs ≡ true → ascends (map f xs) ≡ true
ascends_map f [] kept up = refl
ascends_map f (x ∷ xs) kept up =
    ascends_behind (f x) (map f xs)
    (λ w there.
    let found = contained_in_map f xs w there in
    subst (λ (n : ℕ). f x < n) found.2 (kept x found.0 (contains_here x xs) (contains_later x xs found.0 found.1) (first_below x xs found.0 up found.1)))
    (ascends_map f xs (λ y z has there. kept y z (contains_later x xs y has) (contains_later x xs z there)) (ascends_rest x xs up))

-- ascending lists that contain the same numbers are one
pub one_list : (xs ys : List ℕ) → ascends xs ≡ true → ascends ys ≡ true → ((x : ℕ) → Contains xs x → Contains ys x) → ((x : ℕ) → Contains ys x → Contains xs x) → xs ≡ ys
one_list xs ys up up' there back = one_order nat_cmp nat_cmp_total xs ys (sorted_from_ascends xs up) (sorted_from_ascends ys up') there back
