-- Lists in which nothing stands twice.
use Rattle.std.proofs.Common.{◌≡◌, ◌∙◌, ℕ, zero, suc, List, [], ◌∷◌, Contains, Some, map, slice_get, slice_index, refl, sym, ap}
use Rattle.std.specs.List.{flat_map}
use Rattle.rw_spec.proofs.Sequences.{contains_none, contains_at, contained_in_map, contained_in_flat_map}
use Rattle.rw_spec.specs.Tuples.{tuples}
use Rattle.rw_spec.proofs.EachOnce.{EachOnce, once_append, once_map}

-- what stands at two places of such a list stands at one
pub one_place : {X : Type 0} (xs : List X) → EachOnce xs → (p q : ℕ) (x : X) → slice_get xs p ≡ Some x → slice_get xs q ≡ Some x → p ≡ q
one_place [] once p q x first second = let never : ⊥ = cc in absurd never
one_place (y ∷ xs) once zero zero x first second = refl
one_place (y ∷ xs) once zero (suc q) x first second = let same : y ≡ x = cc in absurd (once.0 (rw same (contains_at xs q x second)))
one_place (y ∷ xs) once (suc p) zero x first second = let same : y ≡ x = cc in absurd (once.0 (rw same (contains_at xs p x first)))
one_place (y ∷ xs) once (suc p) (suc q) x first second = ap suc (one_place xs once.1 p q x first second)

-- distinct names stand once
-- lists joined end to end, where what stands in a list tells which one it is
pub once_flat_map : {Y : Type 0} (f : ℕ → List Y) (h : Y → ℕ) (names : List ℕ) → EachOnce names → ((x : ℕ) → EachOnce (f x)) → ((x : ℕ) (y : Y) → Contains (f x) y → h y ≡ x) → EachOnce (flat_map f names)
once_flat_map f h [] once each tells = tt
once_flat_map f h (name ∷ names) once each tells =
    once_append (f name) (flat_map f names) (each name) (once_flat_map f h names once.1 each tells) (λ y before after.
    let found = contained_in_flat_map f names y after in
    let same : found.0 ≡ name = sym (tells found.0 y found.2) ∙ tells name y before in
    once.0 (rw (← same) found.1))

-- tuples of names stand once, where the names of each list do
abbrev pub AllOnce : List (List ℕ) → Type 0
AllOnce [] = Unit {0}
AllOnce (names ∷ more) = EachOnce names × AllOnce more

-- then the tuples stand once
pub once_tuples : (lists : List (List ℕ)) → AllOnce lists → EachOnce (tuples lists)
once_tuples [] all = ((λ there. contains_none [] there), tt)
once_tuples (names ∷ more) all =
    once_flat_map (λ name. map (λ tuple. name ∷ tuple) (tuples more)) (λ tuple. slice_index tuple 0) names all.0
    (λ name. once_map (λ (tuple : List ℕ). name ∷ tuple) (tuples more) (λ x y same. let one : x ≡ y = cc in one) (once_tuples more all.1))
    (λ name tuple there.
    let found = contained_in_map (λ (rest : List ℕ). name ∷ rest) (tuples more) tuple there in
    ap (λ (t : List ℕ). slice_index t 0) (sym found.2))
