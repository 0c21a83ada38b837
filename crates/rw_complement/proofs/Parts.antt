-- Which parts stay, which are removed, and the tests for it.
use Rattle.std.proofs.Common.{◌≡◌, ◌⊎◌, ◌==◌, ◌&&◌, ◌||◌, ℕ, Bool, true, false, not, cond, Some, None, slice_get, refl, ap, inl, inr, eqb-true}
use Rattle.std.specs.Option.{is_none}
use Rattle.std.proofs.lemmas.Bool.{and_from, and_parts, and_right, both_ways, cases_Bool, eq-eqb, false_from_ne_true, not-true, not_from_false, not_from_true, or_from}
use Rattle.rw_schema.specs.declared.atom.Atom.{Atom}
use Rattle.rw_schema.specs.declared.signature.AttrEnds.{AttrEnds}
use Rattle.rw_schema.specs.Signature.{Signature}
use Rattle.rw_spec.specs.Instance.{Has}
use Rattle.rw_spec.specs.Redex.{Redex}
use Rattle.rw_spec.proofs.Sequences.{contains_filter, contained_in_filter, list_all_contained}
use Rattle.rw_spec.proofs.Signatures.{holder_is}
use Rattle.rw_complement.specs.Context.{context_of, is_kept, is_removed, is_under, is_blank_over, is_blanked}
use Rattle.rw_complement.specs.Redex.{IsKept, IsRemoved}
use Rattle.rw_complement.proofs.Tests.{some_from, some_at}

-- a part that passes the test is kept
pub kept_from : (R : Redex) (object y : ℕ) → is_kept R object y ≡ true → IsKept R object y
kept_from R object y some =
    let found = some_from (λ z. R.l object z == y) (R.keep.names object) some in
    (found.0, found.1, eqb-true (R.l object found.0) y found.2)

-- a part that is kept passes the test
pub kept_test : (R : Redex) (object y : ℕ) → IsKept R object y → is_kept R object y ≡ true
kept_test R object y (z, has, is) = some_at (λ z. R.l object z == y) (R.keep.names object) z has (eq-eqb (R.l object z) y is)

-- a part is kept, or it is not
pub kept_or_not : (R : Redex) (object y : ℕ) → IsKept R object y ⊎ (IsKept R object y → ⊥)
kept_or_not R object y =
    elim (cases_Bool (is_kept R object y)) [
      | inl passes ↦ inl (kept_from R object y passes)
      | inr fails ↦ inr (λ kept. both_ways (is_kept R object y) fails (kept_test R object y kept))
    ]

-- a name that passes the test is removed
pub removed_from : (R : Redex) (object w : ℕ) → is_removed R object w ≡ true → IsRemoved R object w
removed_from R object w some =
    let found = some_from (λ y. not (is_kept R object y) && R.m object y == w) (R.left.names object) some in
    let both = and_parts (not (is_kept R object found.0)) (R.m object found.0 == w) found.2 in
    let out : IsKept R object found.0 → ⊥ = λ kept.
    both_ways (is_kept R object found.0) (not-true (is_kept R object found.0) both.0) (kept_test R object found.0 kept) in
    (found.0, found.1, eqb-true (R.m object found.0) w both.1, out)

-- a name that is removed passes the test
pub removed_test : (R : Redex) (object w : ℕ) → IsRemoved R object w → is_removed R object w ≡ true
removed_test R object w (y, has, is, out) =
    let fails : is_kept R object y ≡ false = false_from_ne_true (is_kept R object y) (λ passes. out (kept_from R object y passes)) in
    some_at (λ y. not (is_kept R object y) && R.m object y == w) (R.left.names object) y has
    (and_from (not (is_kept R object y)) (R.m object y == w) (not_from_false (is_kept R object y) fails) (eq-eqb (R.m object y) w is))

-- a name is removed, or it is not
pub removed_or_not : (R : Redex) (object w : ℕ) → IsRemoved R object w ⊎ (IsRemoved R object w → ⊥)
removed_or_not R object w =
    elim (cases_Bool (is_removed R object w)) [
      | inl passes ↦ inl (removed_from R object w passes)
      | inr fails ↦ inr (λ removed. both_ways (is_removed R object w) fails (removed_test R object w removed))
    ]

-- a name of the host that is not removed is one of the context
pub in_context : (C : Signature) (R : Redex) (object w : ℕ) → Has R.host object w → (IsRemoved R object w → ⊥) → Has (context_of C R) object w
in_context C R object w has stays =
    let fails : is_removed R object w ≡ false = false_from_ne_true (is_removed R object w) (λ passes. stays (removed_from R object w passes)) in
    contains_filter (λ w. not (is_removed R object w)) (R.host.names object) w has (not_from_false (is_removed R object w) fails)

-- a name of the context is one of the host that is not removed
pub from_context : (C : Signature) (R : Redex) (object w : ℕ) → Has (context_of C R) object w → Has R.host object w × (IsRemoved R object w → ⊥)
from_context C R object w has =
    let both = contained_in_filter (λ w. not (is_removed R object w)) (R.host.names object) w has in
    (both.0, λ removed. both_ways (is_removed R object w) (not-true (is_removed R object w) both.1) (removed_test R object w removed))

-- what a cell of the context is, where the attribute's object is given
pub context_cell : (C : Signature) (R : Redex) (c : ℕ) (ends : AttrEnds) (w : ℕ) → slice_get C.attributes c ≡ Some ends
    → (context_of C R).cell c w ≡ cond (is_blanked R ends.object.0 c w) None (R.host.cell c w)
context_cell C R c ends w there = ap (λ (object : ℕ). cond (is_blanked R object c w) None (R.host.cell c w)) (holder_is C c ends there)

-- a name of a part of keep with an atom keeps its cell
pub not_blanked : (R : Redex) (object c z : ℕ) (atom : Atom) → Has R.keep object z → R.keep.cell c z ≡ Some atom → is_blanked R object c (R.m object (R.l object z)) ≡ false
not_blanked R object c z atom has is =
    let w : ℕ = R.m object (R.l object z) in
    let test : ℕ → Bool = λ z. not (R.m object (R.l object z) == w) || is_none (R.keep.cell c z) in
    let own : test z ≡ false =
    or_from (not (R.m object (R.l object z) == w)) (is_none (R.keep.cell c z)) (not_from_true (w == w) (eq-eqb w w refl)) (ap is_none is) in
    and_right (is_under R object w) (is_blank_over R object c w)
    (false_from_ne_true (is_blank_over R object c w) (λ all. both_ways (test z) own (list_all_contained test (R.keep.names object) z all has)))

-- a name of a part of keep is that of one
pub under_from : (R : Redex) (object w : ℕ) → is_under R object w ≡ true → (z : ℕ) × Has R.keep object z × (R.m object (R.l object z) ≡ w)
under_from R object w some =
    let found = some_from (λ z. R.m object (R.l object z) == w) (R.keep.names object) some in
    (found.0, found.1, eqb-true (R.m object (R.l object found.0)) w found.2)
