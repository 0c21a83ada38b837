-- The numbers of copies, without making any.
use Rattle.std.proofs.Common.{◌≡◌, ◌≢◌, ◌∙◌, ◌+◌, ◌-◌, ◌*◌, ℕ, inl, inr, Bool, true, List, [], ◌∷◌, Some, filter, map, length, drop, slice_get, refl, sym, ap, arith, length-append}
use Rattle.std.proofs.Math.Nat.{zero-mul, suc-mul, add_comm}
use Rattle.std.specs.List.{list_all, flat_map, sum_by}
use Rattle.std.proofs.lemmas.Bool.{cases_eq, eq-eqb, ne_eqb}
use Rattle.std.proofs.lemmas.List.{length-map}
use Rattle.std.proofs.lemmas.List.Sums.{sum_by-cons}
use Rattle.rw_schema.specs.declared.parts.Equation.{Equation}
use Rattle.rw_schema.specs.declared.signature.ArrowEnds.{ArrowEnds}
use Rattle.rw_schema.specs.First.{map_in}
use Rattle.rw_schema.specs.Signature.{Signature}
use Rattle.rw_spec.specs.Instance.{Instance}
use Rattle.rw_spec.specs.Natural.{Map}
use Rattle.rw_spec.proofs.Sequences.{list_all_from_each}
use Rattle.rw_spec.specs.Redex.{Redex}
use Rattle.rw_copies.specs.CopyLists.{choices, agrees_on, copy_rows, made_over, more_parts, factor_of, product}
use Rattle.rw_spec.specs.Tuples.{tuples}

length_flat_same : {X : Type 0} (f : ℕ → List X) (n : ℕ) (names : List ℕ) → ((x : ℕ) → length (f x) ≡ n) → length (flat_map f names) ≡ length names * n
length_flat_same f n [] same = sym (zero-mul n)
length_flat_same f n (name ∷ names) same = length-append (f name) (flat_map f names) ∙ rw (same name, length_flat_same f n names same) (sym (suc-mul (length names) n ∙ add_comm (length names * n) n))

length_tuples : (lists : List (List ℕ)) → length (tuples lists) ≡ product (map length lists)
length_tuples [] = refl
length_tuples (names ∷ more) =
    length_flat_same (λ name. map (λ (rest : List ℕ). name ∷ rest) (tuples more)) (length (tuples more)) names (λ name. length-map (tuples more) (λ (rest : List ℕ). name ∷ rest))
    ∙ ap (λ (n : ℕ). length names * n) (length_tuples more)

filter_all : {X : Type 0} (p : X → Bool) (xs : List X) → ((x : X) → p x ≡ true) → filter p xs ≡ xs
filter_all p [] all = refl
filter_all p (x ∷ xs) all = rw (all x) (ap (λ rest. x ∷ rest) (filter_all p xs all))

lengths_of_choices : (R : Redex) (D : Instance) (e : Map) (object g i : ℕ) (arrows : List ArrowEnds) → map length (map_in (choices R D e object g) i arrows) ≡ map_in (factor_of R D e object g) i arrows
lengths_of_choices R D e object g i [] = refl
lengths_of_choices R D e object g i (ends ∷ arrows) =
    let first : length (choices R D e object g i ends) ≡ factor_of R D e object g i ends =
    elim (cases_eq ends.source.0 object) [ inl leaves ↦ rw (eq-eqb ends.source.0 object leaves) refl | inr other ↦ rw (ne_eqb ends.source.0 object other) refl ] in
    rw (first, lengths_of_choices R D e object g (i + 1) arrows) refl

-- where no equation starts at the object, the number of copies of a host part is a product, with one factor for each arrow
pub count_is_product : (C : Signature) (R : Redex) (D : Instance) (e : Map) (object g : ℕ) → ((n : ℕ) (equation : Equation) → slice_get C.equations n ≡ Some equation → equation.object.0 ≢ object)
    → length (copy_rows C R D e object g) ≡ product (map_in (factor_of R D e object g) 0 C.arrows)
count_is_product C R D e object g free =
    ap length (filter_all (λ row. list_all (agrees_on D object row) C.equations) (tuples (map_in (choices R D e object g) 0 C.arrows))
    (λ row. list_all_from_each (agrees_on D object row) C.equations (λ n equation there. rw (ne_eqb equation.object.0 object (free n equation there)) refl)))
    ∙ length_tuples (map_in (choices R D e object g) 0 C.arrows) ∙ ap product (lengths_of_choices R D e object g 0 C.arrows)

-- the names that copies over an object take
pub count_of_more : (C : Signature) (R : Redex) (D : Instance) (e : Map) (object : ℕ) → length (more_parts C R D e object) ≡ sum_by (λ g. length (made_over C R D e object g) - 1) (R.host.names object)
count_of_more C R D e object = counts (made_over C R D e object) (R.host.names object)
  where
    one_less : {X : Type 0} (xs : List X) → length (drop 1 xs) ≡ length xs - 1
    one_less [] = refl
    one_less (x ∷ xs) = omega arith

    counts : {X : Type 0} (f : ℕ → List X) (names : List ℕ) → length (flat_map (λ g. drop 1 (f g)) names) ≡ sum_by (λ g. length (f g) - 1) names
    counts f [] = refl
    counts f (name ∷ names) = length-append (drop 1 (f name)) (flat_map (λ g. drop 1 (f g)) names) ∙ rw (one_less (f name), counts f names) (sym (sum_by-cons (λ g. length (f g) - 1) name names))
