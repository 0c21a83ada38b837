-- What removal leaves is the largest fitting pair.
use Rattle.std.proofs.Common.{◌≡◌, ◌≢◌, ◌∙◌, ◌<◌, ◌⊎◌, ℕ, zero, suc, inl, inr, Bool, true, false, not, List, [], ◌∷◌, Contains, Some, slice_get, refl, sym, ap, arith}
use Rattle.std.proofs.lemmas.Bool.{cases_eq, both_ways, and_parts, and_from, false_from_ne_true}
use Rattle.rw_schema.specs.declared.signature.ArrowEnds.{ArrowEnds}
use Rattle.rw_schema.specs.declared.signature.AttrEnds.{AttrEnds}
use Rattle.rw_schema.specs.Signature.{Signature, IsCategory, holder_of}
use Rattle.rw_spec.specs.Instance.{Has}
use Rattle.rw_spec.proofs.Signatures.{holder_is}
use Rattle.rw_partial.specs.SubInstance.{Elements}
use Rattle.rw_partial.specs.SinglePushout.{Applied, Fits, IsLargestPair, IsApplied}
use Rattle.rw_partial.specs.Removal.{NoPart, NoCell, NoRightPart, NoRightCell, left_of, IsClosed, IsExcluded}

not_from : (b : Bool) → not b ≡ true → b ≡ false
not_from true is = let no : ⊥ = cc in absurd no
not_from false is = refl

not_to : (b : Bool) → b ≡ false → not b ≡ true
not_to true is = let no : ⊥ = cc in absurd no
not_to false is = refl

-- a test that implies one that fails, fails
fails : (a b : Bool) → b ≡ false → (a ≡ true → b ≡ true) → a ≡ false
fails true b out implies = let no : ⊥ = both_ways b out (implies refl) in absurd no
fails false b out implies = refl

-- a part goes with each value under its arrows
pub source_goes : (C : Signature) (S : Applied) (a : ℕ) (ends : ArrowEnds) (x : ℕ) → slice_get C.arrows a ≡ Some ends → Has S.host ends.source.0 x
    → NoPart C S ends.target.0 (S.host.value a x) → NoPart C S ends.source.0 x
source_goes C S a ends x there part out E Q fits =
    fails (E.part ends.source.0 x) (E.part ends.target.0 (S.host.value a x)) (out E Q fits) (fits.host.values a ends x there part)

pub right_source_goes : (C : Signature) (S : Applied) (a : ℕ) (ends : ArrowEnds) (y : ℕ) → slice_get C.arrows a ≡ Some ends → Has S.right ends.source.0 y
    → NoRightPart C S ends.target.0 (S.right.value a y) → NoRightPart C S ends.source.0 y
right_source_goes C S a ends y there part out E Q fits =
    fails (Q.part ends.source.0 y) (Q.part ends.target.0 (S.right.value a y)) (out E Q fits) (fits.right.values a ends y there part)

-- the image of a deleted part goes
pub deleted_goes : (C : Signature) (S : Applied) (object x : ℕ) → object < C.objects → Has S.left object x → ((z : ℕ) → Has S.keep object z → S.l object z ≢ x)
    → NoPart C S object (S.m object x)
deleted_goes C S object x below part none E Q fits =
    false_from_ne_true (E.part object (S.m object x)) (λ in_set.
    let kept = (fits.parts object x below part).0 in_set in
    none kept.0 kept.1 kept.2)

-- the host part and the right part of a kept part go together
pub right_part_goes : (C : Signature) (S : Applied) → IsApplied C S → (object z : ℕ) → object < C.objects → Has S.keep object z
    → NoPart C S object (S.m object (S.l object z)) → NoRightPart C S object (S.r object z)
right_part_goes C S applied object z below part out E Q fits =
    fails (Q.part object (S.r object z)) (E.part object (S.m object (S.l object z))) (out E Q fits)
    (λ in_set. (fits.parts object (S.l object z) below (applied.l.parts object z below part)).1 (z, part, refl, in_set))

pub host_part_goes : (C : Signature) (S : Applied) → IsApplied C S → (object z : ℕ) → object < C.objects → Has S.keep object z
    → NoRightPart C S object (S.r object z) → NoPart C S object (S.m object (S.l object z))
host_part_goes C S applied object z below part out E Q fits =
    fails (E.part object (S.m object (S.l object z))) (Q.part object (S.r object z)) (out E Q fits) (λ in_set.
    let kept = (fits.parts object (S.l object z) below (applied.l.parts object z below part)).0 in_set in
    ap (λ (y : ℕ). Q.part object (S.r object y)) (sym (applied.injective object kept.0 z below kept.1 part kept.2)) ∙ kept.3)

-- the host cell under a set cell goes
pub set_cell_goes : (C : Signature) → IsCategory C → (S : Applied) → IsApplied C S → (c : ℕ) (ends : AttrEnds) (z : ℕ) → slice_get C.attributes c ≡ Some ends → Has S.keep ends.object.0 z
    → S.set c (S.r ends.object.0 z) ≡ true → NoCell C S c (S.m ends.object.0 (S.l ends.object.0 z))
set_cell_goes C category S applied c ends z there part given E Q fits =
    let object : ℕ = ends.object.0 in
    let below = category.holders c ends there in
    false_from_ne_true (E.cell c (S.m object (S.l object z))) (λ in_set.
    let kept = (fits.cells c ends (S.l object z) there (applied.l.parts object z below part)).0 in_set in
    both_ways (S.set c (S.r object z)) (ap (λ (y : ℕ). S.set c (S.r object y)) (sym (applied.injective object kept.0 z below kept.1 part kept.2)) ∙ kept.3) given)

-- the host cell and the right cell of a kept part go together where the right cell is not set
pub right_cell_goes : (C : Signature) → IsCategory C → (S : Applied) → IsApplied C S → (c : ℕ) (ends : AttrEnds) (z : ℕ) → slice_get C.attributes c ≡ Some ends → Has S.keep ends.object.0 z
    → S.set c (S.r ends.object.0 z) ≡ false → NoCell C S c (S.m ends.object.0 (S.l ends.object.0 z)) → NoRightCell C S c (S.r ends.object.0 z)
right_cell_goes C category S applied c ends z there part unset out E Q fits =
    let object : ℕ = ends.object.0 in
    let below = category.holders c ends there in
    fails (Q.cell c (S.r object z)) (E.cell c (S.m object (S.l object z))) (out E Q fits)
    (λ in_set. (fits.cells c ends (S.l object z) there (applied.l.parts object z below part)).1 (z, part, refl, unset, in_set))

pub host_cell_goes : (C : Signature) → IsCategory C → (S : Applied) → IsApplied C S → (c : ℕ) (ends : AttrEnds) (z : ℕ) → slice_get C.attributes c ≡ Some ends → Has S.keep ends.object.0 z
    → NoRightCell C S c (S.r ends.object.0 z) → NoCell C S c (S.m ends.object.0 (S.l ends.object.0 z))
host_cell_goes C category S applied c ends z there part out E Q fits =
    let object : ℕ = ends.object.0 in
    let below = category.holders c ends there in
    fails (E.cell c (S.m object (S.l object z))) (Q.cell c (S.r object z)) (out E Q fits) (λ in_set.
    let kept = (fits.cells c ends (S.l object z) there (applied.l.parts object z below part)).0 in_set in
    ap (λ (y : ℕ). Q.cell c (S.r object y)) (sym (applied.injective object kept.0 z below kept.1 part kept.2)) ∙ kept.4)

-- a number is the image of a name, or of none
image_cases : (names : List ℕ) (f : ℕ → ℕ) (g : ℕ) → ((x : ℕ) × Contains names x × (f x ≡ g)) ⊎ ((x : ℕ) → Contains names x → f x ≢ g)
image_cases [] f g = inr (λ x there same. omega (arith, there.1))
image_cases (name ∷ names) f g = elim (cases_eq (f name) g) [
  | inl here ↦ inl (name, (zero, omega arith, refl), here)
  | inr other ↦
      elim (image_cases names f g) [
        | inl found ↦ inl (found.0, (suc found.1.0, omega (arith, found.1.1), found.1.2), found.2)
        | inr none ↦ inr (image_more names f g name other none)
      ]
]
  where
    image_more : (names : List ℕ) (f : ℕ → ℕ) (g name : ℕ) → f name ≢ g → ((x : ℕ) → Contains names x → f x ≢ g) → (x : ℕ) → Contains (name ∷ names) x → f x ≢ g
    image_more names f g name other none x (zero, within, there) = λ same. other (ap f there ∙ same)
    image_more names f g name other none x (suc k, within, there) = none x (k, omega arith, there)

module _ (C : Signature) (category : IsCategory C) (S : Applied) (applied : IsApplied C S) (gone cut right_gone right_cut : ℕ → ℕ → Bool)
    (closed : IsClosed C S gone cut right_gone right_cut) where
  abbrev host_left : Elements
  host_left = left_of C gone cut

  abbrev right_left : Elements
  right_left = left_of C right_gone right_cut

  -- a cell that is left, at its object
  cell_left : (c : ℕ) (ends : AttrEnds) (gone cut : ℕ → ℕ → Bool) (x : ℕ) → slice_get C.attributes c ≡ Some ends → (left_of C gone cut).cell c x ≡ true
      → (gone ends.object.0 x ≡ false) × (cut c x ≡ false)
  cell_left c ends gone cut x there in_set =
      let both = and_parts (not (gone (holder_of C c) x)) (not (cut c x)) in_set in
      (ap (λ (o : ℕ). gone o x) (sym (holder_is C c ends there)) ∙ not_from (gone (holder_of C c) x) both.0, not_from (cut c x) both.1)

  left_cell : (c : ℕ) (ends : AttrEnds) (gone cut : ℕ → ℕ → Bool) (x : ℕ) → slice_get C.attributes c ≡ Some ends → gone ends.object.0 x ≡ false → cut c x ≡ false
      → (left_of C gone cut).cell c x ≡ true
  left_cell c ends gone cut x there here uncut =
      and_from (not (gone (holder_of C c) x)) (not (cut c x)) (not_to (gone (holder_of C c) x) (ap (λ (o : ℕ). gone o x) (holder_is C c ends there) ∙ here)) (not_to (cut c x) uncut)

  -- what is left under an arrow
  arrow_left : (source target : Bool) → (target ≡ true → source ≡ true) → not source ≡ true → not target ≡ true
  arrow_left source target goes in_set = not_to target (fails target source (not_from source in_set) goes)

  -- what is left fits
  left_fits : Fits C S host_left right_left
  left_fits = record {
    host = record {
      values = λ a ends x there part in_set. arrow_left (gone ends.source.0 x) (gone ends.target.0 (S.host.value a x)) (closed.host_arrows a ends x there part) in_set;
      holders = λ c ends x there part in_set. not_to (gone ends.object.0 x) (cell_left c ends gone cut x there in_set).0;
    };
    right = record {
      values = λ a ends y there part in_set. arrow_left (right_gone ends.source.0 y) (right_gone ends.target.0 (S.right.value a y)) (closed.right_arrows a ends y there part) in_set;
      holders = λ c ends y there part in_set. not_to (right_gone ends.object.0 y) (cell_left c ends right_gone right_cut y there in_set).0;
    };
    sets = λ c ends y there part in_set given.
        left_cell c ends right_gone right_cut y there (not_from (right_gone ends.object.0 y) in_set)
        (false_from_ne_true (right_cut c y) (λ cut_so. both_ways (S.set c y) (closed.unset c y cut_so) given));
    parts = λ object x below part. (
      (λ in_set. elim (image_cases (S.keep.names object) (S.l object) x) [
        | inl (z, has, is) ↦ (
          z,
          has,
          is,
          not_to (right_gone object (S.r object z)) (sym (closed.parts object z below has) ∙ ap (λ (y : ℕ). gone object (S.m object y)) is
              ∙ not_from (gone object (S.m object x)) in_set),
        )
        | inr none ↦ absurd (both_ways (gone object (S.m object x)) (not_from (gone object (S.m object x)) in_set) (closed.deleted object x below part none))
      ]),
      (λ kept. not_to (gone object (S.m object x)) (ap (λ (y : ℕ). gone object (S.m object y)) (sym kept.2) ∙ closed.parts object kept.0 below kept.1
          ∙ not_from (right_gone object (S.r object kept.0)) kept.3)),
    );
    cells = λ c ends x there part. (
      (λ in_set.
          let object : ℕ = ends.object.0 in
          let below = category.holders c ends there in
          let own = cell_left c ends gone cut (S.m object x) there in_set in
          elim (image_cases (S.keep.names object) (S.l object) x) [
            | inl (z, has, is) ↦
                let uncut : cut c (S.m object (S.l object z)) ≡ false = ap (λ (y : ℕ). cut c (S.m object y)) is ∙ own.1 in
                let unset : S.set c (S.r object z) ≡ false = false_from_ne_true (S.set c (S.r object z)) (λ given. both_ways (cut c (S.m object (S.l object z))) uncut (closed.set_cells c ends z there has given)) in (
                  z,
                  has,
                  is,
                  unset,
                  left_cell c ends right_gone right_cut (S.r object z) there
                      (sym (closed.parts object z below has) ∙ ap (λ (y : ℕ). gone object (S.m object y)) is ∙ own.0) (sym (closed.cells c ends z there has unset) ∙ uncut),
                )
            | inr none ↦ absurd (both_ways (gone object (S.m object x)) own.0 (closed.deleted object x below part none))
          ]),
      (λ kept.
          let object : ℕ = ends.object.0 in
          let below = category.holders c ends there in
          let own = cell_left c ends right_gone right_cut (S.r object kept.0) there kept.4 in
          left_cell c ends gone cut (S.m object x) there
          (ap (λ (y : ℕ). gone object (S.m object y)) (sym kept.2) ∙ closed.parts object kept.0 below kept.1 ∙ own.0)
          (ap (λ (y : ℕ). cut c (S.m object y)) (sym kept.2) ∙ closed.cells c ends kept.0 there kept.1 kept.3 ∙ own.1)),
    );
  }

  module _ (excluded : IsExcluded C S gone cut right_gone right_cut) where
    -- a test that is not excluded passes
    passes : (out in_other : Bool) → (out ≡ true → in_other ≡ false) → in_other ≡ true → out ≡ false
    passes here in_other implies in_set = false_from_ne_true here (λ so. both_ways in_other (implies so) in_set)

    largest : IsLargestPair C S host_left right_left
    largest = record {
      fits = left_fits;
      host = λ E Q fits. record {
        parts = λ object x below part in_set. not_to (gone object x) (passes (gone object x) (E.part object x) (λ so. excluded.parts object x below part so E Q fits) in_set);
        cells = λ c ends x there part in_set.
            let below = category.holders c ends there in
            let in_part = fits.host.holders c ends x there part in_set in
            left_cell c ends gone cut x there (passes (gone ends.object.0 x) (E.part ends.object.0 x) (λ so. excluded.parts ends.object.0 x below part so E Q fits) in_part)
            (passes (cut c x) (E.cell c x) (λ so. excluded.cells c ends x there part so E Q fits) in_set);
      };
      right = λ E Q fits. record {
        parts = λ object y below part in_set. not_to (right_gone object y) (passes (right_gone object y) (Q.part object y) (λ so. excluded.right_parts object y below part so E Q fits) in_set);
        cells = λ c ends y there part in_set.
            let below = category.holders c ends there in
            let in_part = fits.right.holders c ends y there part in_set in
            left_cell c ends right_gone right_cut y there (passes (right_gone ends.object.0 y) (Q.part ends.object.0 y) (λ so. excluded.right_parts ends.object.0 y below part so E Q fits) in_part)
            (passes (right_cut c y) (Q.cell c y) (λ so. excluded.right_cells c ends y there part so E Q fits) in_set);
      };
    }

-- where nothing more has to go, and what went is in no fitting pair, what is left is the largest fitting pair
pub largest_from_removal : (C : Signature) → IsCategory C → (S : Applied) → IsApplied C S → (gone cut right_gone right_cut : ℕ → ℕ → Bool)
    → IsClosed C S gone cut right_gone right_cut → IsExcluded C S gone cut right_gone right_cut → IsLargestPair C S (left_of C gone cut) (left_of C right_gone right_cut)
largest_from_removal C category S applied gone cut right_gone right_cut closed excluded = largest C category S applied gone cut right_gone right_cut closed excluded
