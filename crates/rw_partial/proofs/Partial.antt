-- A gluing of the largest fitting pair is an initial partial cocone.
use Rattle.std.proofs.Common.{◌≡◌, ◌∙◌, ◌<◌, ◌⊎◌, ◌&&◌, ◌||◌, ◌==◌, ℕ, zero, suc, inl, inr, Bool, true, false, not, cond, List, [], ◌∷◌, Contains, Option, Some, None, slice_get, refl, sym, ap, subst, arith}
use Rattle.std.specs.Prelude.{◌↔◌}
use Rattle.std.proofs.lemmas.Bool.{cases_Bool, cases_eq, both_ways, eqb-true, eq-eqb, and_parts, and_from, or_left, or_right, or_cases}
use Rattle.rw_schema.specs.declared.signature.AttrEnds.{AttrEnds}
use Rattle.rw_schema.specs.Signature.{Signature, IsCategory}
use Rattle.rw_spec.specs.Cocone.{IsCocone}
use Rattle.rw_spec.specs.Homomorphism.{IsHomomorphism}
use Rattle.rw_spec.specs.Instance.{Instance, Has}
use Rattle.rw_spec.specs.Natural.{Map}
use Rattle.rw_spec.proofs.Sequences.{contains_filter, contained_in_filter}
use Rattle.rw_universal.specs.Gluing.{IsGluing, From}
use Rattle.rw_universal.proofs.Choice.{choose}
use Rattle.rw_universal.proofs.Gluing.{pushout_from_gluing}
use Rattle.rw_partial.specs.SubInstance.{AreSameElements, Elements, IsSubInstance, restricted, IsInside}
use Rattle.rw_partial.specs.SinglePushout.{Applied, IsKeptCell, Fits, IsLargestPair, IsPartialCocone, IsMediatingPartial, AreSamePartial, IsInitialPartialCocone, frame_of_pair, IsApplied}
use Rattle.rw_partial.proofs.SubInstances.{has_restricted, restricted_has, restricted_atom, sub_instance}

-- two tests are one where each implies the other
pub same_test : (a b : Bool) → (a ≡ true → b ≡ true) → (b ≡ true → a ≡ true) → a ≡ b
same_test true b there back = sym (there refl)
same_test false true there back = back refl
same_test false false there back = refl

-- the part of the host under a kept part is in the one set exactly where its right part is in the other
linked_parts : (C : Signature) (S : Applied) → IsApplied C S → (E Q : Elements) → Fits C S E Q → (object z : ℕ) → object < C.objects → Has S.keep object z
    → E.part object (S.m object (S.l object z)) ≡ Q.part object (S.r object z)
linked_parts C S applied E Q fits object z below part =
    let both = fits.parts object (S.l object z) below (applied.l.parts object z below part) in
    same_test (E.part object (S.m object (S.l object z))) (Q.part object (S.r object z))
    (λ in_host. let kept = both.0 in_host in
    ap (λ (y : ℕ). Q.part object (S.r object y)) (sym (applied.injective object kept.0 z below kept.1 part kept.2)) ∙ kept.3)
    (λ in_right. both.1 (z, part, refl, in_right))

-- the cell of the host under a kept part is in the one set exactly where its right cell is not set and in the other
linked_cells : (C : Signature) → IsCategory C → (S : Applied) → IsApplied C S → (E Q : Elements) → Fits C S E Q → (c : ℕ) (ends : AttrEnds) (z : ℕ) → slice_get C.attributes c ≡ Some ends
    → Has S.keep ends.object.0 z → E.cell c (S.m ends.object.0 (S.l ends.object.0 z)) ≡ Q.cell c (S.r ends.object.0 z) && not (S.set c (S.r ends.object.0 z))
linked_cells C category S applied E Q fits c ends z there part =
    let object : ℕ = ends.object.0 in
    let below = category.holders c ends there in
    let both = fits.cells c ends (S.l object z) there (applied.l.parts object z below part) in
    same_test (E.cell c (S.m object (S.l object z))) (Q.cell c (S.r object z) && not (S.set c (S.r object z)))
    (λ in_host. let kept = both.0 in_host in
    let one : z ≡ kept.0 = sym (applied.injective object kept.0 z below kept.1 part kept.2) in
    let in_right : Q.cell c (S.r object z) ≡ true = ap (λ (y : ℕ). Q.cell c (S.r object y)) one ∙ kept.4 in
    let unset : S.set c (S.r object z) ≡ false = ap (λ (y : ℕ). S.set c (S.r object y)) one ∙ kept.3 in
    rw (in_right, unset) refl)
    (λ in_right.
    let parts = and_parts (Q.cell c (S.r object z)) (not (S.set c (S.r object z))) in_right in
    both.1 (z, part, refl, not_true (S.set c (S.r object z)) parts.1, parts.0))
  where
    not_true : (b : Bool) → not b ≡ true → b ≡ false
    not_true true is = let no : ⊥ = cc in absurd no
    not_true false is = refl

-- a number from a test: 1 where it holds
abbrev pub bit : Bool → ℕ
bit b = cond b 1 0

abbrev pub is_one : ℕ → Bool
is_one n = n == 1

one_bit : (b : Bool) → is_one (bit b) ≡ b
one_bit true = refl
one_bit false = refl

-- a number with a mark: 0 where the test fails, else the number after n
abbrev pub marked : Bool → ℕ → ℕ
marked b n = cond b (suc n) 0

-- the mark is there
abbrev pub has_mark : ℕ → Bool
has_mark zero = false
has_mark (suc n) = true

-- the number under the mark
abbrev pub unmarked : ℕ → ℕ
unmarked zero = 0
unmarked (suc n) = n

is_marked : (b : Bool) (n : ℕ) → has_mark (marked b n) ≡ b
is_marked true n = refl
is_marked false n = refl

-- whether some part of X that meets a test goes to w
from_cases : (X : Instance) (f : Map) (test : ℕ → Bool) (object w : ℕ) → From X f (λ x. test x ≡ true) object w ⊎ (From X f (λ x. test x ≡ true) object w → ⊥)
from_cases X f test object w = among (X.names object) (f object) test w
  where
    later : (names : List ℕ) (f : ℕ → ℕ) (test : ℕ → Bool) (name w : ℕ) → ((f name ≡ w) × (test name ≡ true) → ⊥) → ((x : ℕ) × Contains names x × (f x ≡ w) × (test x ≡ true) → ⊥)
        → (x : ℕ) × Contains (name ∷ names) x × (f x ≡ w) × (test x ≡ true) → ⊥
    later names f test name w not_here none (x, (zero, within, there), goes, passes) = not_here (ap f there ∙ goes, ap test there ∙ passes)
    later names f test name w not_here none (x, (suc k, within, there), goes, passes) = none (x, (k, omega arith, there), goes, passes)

    here : (f : ℕ → ℕ) (test : ℕ → Bool) (name w : ℕ) → ((f name ≡ w) × (test name ≡ true)) ⊎ ((f name ≡ w) × (test name ≡ true) → ⊥)
    here f test name w = elim (cases_eq (f name) w) [
      | inl goes ↦ elim (cases_Bool (test name)) [ inl passes ↦ inl (goes, passes) | inr fails ↦ inr (λ both. both_ways (test name) fails both.1) ]
      | inr other ↦ inr (λ both. other both.0)
    ]

    among : (names : List ℕ) (f : ℕ → ℕ) (test : ℕ → Bool) (w : ℕ) → ((x : ℕ) × Contains names x × (f x ≡ w) × (test x ≡ true)) ⊎ ((x : ℕ) × Contains names x × (f x ≡ w) × (test x ≡ true) → ⊥)
    among [] f test w = inr (λ found. omega (arith, found.1.1))
    among (name ∷ names) f test w = elim (here f test name w) [
      | inl both ↦ inl (name, (zero, omega arith, refl), both.0, both.1)
      | inr not_here ↦
          elim (among names f test w) [
            | inl found ↦ inl (found.0, (suc found.1.0, omega (arith, found.1.1), found.1.2), found.2, found.3)
            | inr none ↦ inr (later names f test name w not_here none)
          ]
    ]

-- where there is something to choose at an entry, it is chosen
chosen_at : {X B : Type 0} (P : X → B → Type 0) (default : B) (entry : Option X) → ((x : X) → entry ≡ Some x → (b : B) × P x b) → (b : B) × ((x : X) → entry ≡ Some x → P x b)
chosen_at P default None each = (default, λ x is. let no : ⊥ = cc in absurd no)
chosen_at {X} P default (Some y) each =
    let found = each y refl in
    (found.0, λ x is. let same : y ≡ x = cc in subst (λ (z : X). P z found.0) same found.1)

module _ (C : Signature) (category : IsCategory C) (S : Applied) (applied : IsApplied C S) (D R : Elements) (largest : IsLargestPair C S D R)
    (H : Instance) (i j : Map) (gluing : IsGluing C (frame_of_pair S D R) H i j) where
  -- the two ways from a kept part whose right part is in the set are one
  two_ways : (object z : ℕ) → object < C.objects → Has S.keep object z → R.part object (S.r object z) ≡ true → i object (S.m object (S.l object z)) ≡ j object (S.r object z)
  two_ways object z below part in_right = gluing.agrees object z below (contains_filter (λ z. R.part object (S.r object z)) (S.keep.names object) z part in_right)

  -- the sets with all cells of an attribute over one part of H
  module _ (c : ℕ) (ends : AttrEnds) (there : slice_get C.attributes c ≡ Some ends) (w : ℕ) where
    abbrev more_host : Elements
    more_host = record { part = D.part; cell = λ a x. D.cell a x || (a == c && (D.part ends.object.0 x && i ends.object.0 x == w)) }

    abbrev more_right : Elements
    more_right = record { part = R.part; cell = λ a y. R.cell a y || (a == c && (R.part ends.object.0 y && j ends.object.0 y == w)) }

    -- an attribute at this number is this one
    this_one : (a : ℕ) (other : AttrEnds) → slice_get C.attributes a ≡ Some other → a ≡ c → other ≡ ends
    this_one a other is same =
        let at_c : slice_get C.attributes c ≡ Some other = subst (λ (n : ℕ). slice_get C.attributes n ≡ Some other) same is in
        cc

    added : (a : ℕ) (old part goes : Bool) → (old || (a == c && (part && goes))) ≡ true → (old ≡ true) ⊎ ((a ≡ c) × (part ≡ true) × (goes ≡ true))
    added a old part goes is =
        elim (or_cases old (a == c && (part && goes)) is) [
          | inl before ↦ inl before
          | inr new ↦
              let first = and_parts (a == c) (part && goes) new in
              let second = and_parts part goes first.1 in
              inr (eqb-true a c first.0, second.0, second.1)
        ]

    add : (a : ℕ) (old part goes : Bool) → a ≡ c → part ≡ true → goes ≡ true → (old || (a == c && (part && goes))) ≡ true
    add a old part goes same in_set is = or_right old (a == c && (part && goes)) (and_from (a == c) (part && goes) (eq-eqb a c same) (and_from part goes in_set is))

    -- they fit, where no cell of the sets is over that part
    more_fits : (From (restricted S.host D) i (λ x. D.cell c x ≡ true) ends.object.0 w → ⊥) → (From (restricted S.right R) j (λ y. R.cell c y ≡ true) ends.object.0 w → ⊥)
        → Fits C S more_host more_right
    more_fits no_host no_right = record {
      host = record {
        values = largest.fits.host.values;
        holders = λ a other x is part in_set.
            elim (added a (D.cell a x) (D.part ends.object.0 x) (i ends.object.0 x == w) in_set) [
              | inl before ↦ largest.fits.host.holders a other x is part before
              | inr new ↦ subst (λ (e : AttrEnds). D.part e.object.0 x ≡ true) (sym (this_one a other is new.0)) new.1
            ];
      };
      right = record {
        values = largest.fits.right.values;
        holders = λ a other y is part in_set.
            elim (added a (R.cell a y) (R.part ends.object.0 y) (j ends.object.0 y == w) in_set) [
              | inl before ↦ largest.fits.right.holders a other y is part before
              | inr new ↦ subst (λ (e : AttrEnds). R.part e.object.0 y ≡ true) (sym (this_one a other is new.0)) new.1
            ];
      };
      sets = λ a other y is part in_set given.
          or_left (R.cell a y) (a == c && (R.part ends.object.0 y && j ends.object.0 y == w)) (largest.fits.sets a other y is part in_set given);
      parts = largest.fits.parts;
      cells = λ a other x is part. (cell_there a other x is part, cell_back a other x is part);
    }
      where
        object : ℕ
        object = ends.object.0

        below : object < C.objects
        below = category.holders c ends there

        -- a left cell that goes into the new set
        new_there : (x : ℕ) → Has S.left object x → D.part object (S.m object x) ≡ true → i object (S.m object x) ≡ w → IsKeptCell S more_right object c x
        new_there x part in_set goes =
            let kept = (largest.fits.parts object x below part).0 in_set in
            let over : j object (S.r object kept.0) ≡ w = sym (two_ways object kept.0 below kept.1 kept.3) ∙ ap (λ (y : ℕ). i object (S.m object y)) kept.2 ∙ goes in
            let right_part = applied.r.parts object kept.0 below kept.1 in
            elim (cases_Bool (S.set c (S.r object kept.0))) [
              | inl given ↦
                  absurd (no_right (
                    S.r object kept.0,
                    has_restricted S.right R object (S.r object kept.0) right_part kept.3,
                    over,
                    largest.fits.sets c ends (S.r object kept.0) there right_part kept.3 given,
                  ))
              | inr unset ↦ (
                kept.0,
                kept.1,
                kept.2,
                unset,
                add c (R.cell c (S.r object kept.0)) (R.part object (S.r object kept.0)) (j object (S.r object kept.0) == w) refl kept.3
                    (eq-eqb (j object (S.r object kept.0)) w over),
              )
            ]

        -- a new right cell comes from the new set
        new_back : (x z : ℕ) → Has S.keep object z → S.l object z ≡ x → R.part object (S.r object z) ≡ true → j object (S.r object z) ≡ w
            → (D.part object (S.m object x) ≡ true) × (i object (S.m object x) ≡ w)
        new_back x z part is in_set goes = (
          ap (λ (y : ℕ). D.part object (S.m object y)) (sym is) ∙ linked_parts C S applied D R largest.fits object z below part ∙ in_set,
          ap (λ (y : ℕ). i object (S.m object y)) (sym is) ∙ two_ways object z below part in_set ∙ goes,
        )

        cell_there : (a : ℕ) (other : AttrEnds) (x : ℕ) → slice_get C.attributes a ≡ Some other → Has S.left other.object.0 x
            → more_host.cell a (S.m other.object.0 x) ≡ true → IsKeptCell S more_right other.object.0 a x
        cell_there a other x is part in_set =
            elim (added a (D.cell a (S.m other.object.0 x)) (D.part ends.object.0 (S.m other.object.0 x)) (i ends.object.0 (S.m other.object.0 x) == w) in_set) [
              | inl before ↦
                  let kept = (largest.fits.cells a other x is part).0 before in (
                    kept.0,
                    kept.1,
                    kept.2,
                    kept.3,
                    or_left (R.cell a (S.r other.object.0 kept.0))
                        (a == c && (R.part ends.object.0 (S.r other.object.0 kept.0) && j ends.object.0 (S.r other.object.0 kept.0) == w)) kept.4,
                  )
              | inr new ↦
                  let one : other ≡ ends = this_one a other is new.0 in
                  let part_here : Has S.left object x = subst (λ (e : AttrEnds). Has S.left e.object.0 x) one part in
                  let in_here : D.part object (S.m object x) ≡ true = subst (λ (e : AttrEnds). D.part ends.object.0 (S.m e.object.0 x) ≡ true) one new.1 in
                  let test_here : (i object (S.m object x) == w) ≡ true = subst (λ (e : AttrEnds). (i ends.object.0 (S.m e.object.0 x) == w) ≡ true) one new.2 in
                  let kept : IsKeptCell S more_right object c x = new_there x part_here in_here (eqb-true (i object (S.m object x)) w test_here) in
                  subst (λ (e : AttrEnds). IsKeptCell S more_right e.object.0 a x) (sym one)
                  (subst (λ (n : ℕ). IsKeptCell S more_right object n x) (sym new.0) kept)
            ]

        cell_back : (a : ℕ) (other : AttrEnds) (x : ℕ) → slice_get C.attributes a ≡ Some other → Has S.left other.object.0 x
            → IsKeptCell S more_right other.object.0 a x → more_host.cell a (S.m other.object.0 x) ≡ true
        cell_back a other x is part kept =
            let z : ℕ = kept.0 in
            elim (added a (R.cell a (S.r other.object.0 z)) (R.part ends.object.0 (S.r other.object.0 z)) (j ends.object.0 (S.r other.object.0 z) == w) kept.4) [
              | inl before ↦
                  or_left (D.cell a (S.m other.object.0 x)) (a == c && (D.part ends.object.0 (S.m other.object.0 x) && i ends.object.0 (S.m other.object.0 x) == w))
                  ((largest.fits.cells a other x is part).1 (z, kept.1, kept.2, kept.3, before))
              | inr new ↦
                  let one : other ≡ ends = this_one a other is new.0 in
                  let has_here : Has S.keep object z = subst (λ (e : AttrEnds). Has S.keep e.object.0 z) one kept.1 in
                  let l_here : S.l object z ≡ x = subst (λ (e : AttrEnds). S.l e.object.0 z ≡ x) one kept.2 in
                  let in_here : R.part object (S.r object z) ≡ true = subst (λ (e : AttrEnds). R.part ends.object.0 (S.r e.object.0 z) ≡ true) one new.1 in
                  let test_here : (j object (S.r object z) == w) ≡ true = subst (λ (e : AttrEnds). (j ends.object.0 (S.r e.object.0 z) == w) ≡ true) one new.2 in
                  let back = new_back x z has_here l_here in_here (eqb-true (j object (S.r object z)) w test_here) in
                  add a (D.cell a (S.m other.object.0 x)) (D.part ends.object.0 (S.m other.object.0 x)) (i ends.object.0 (S.m other.object.0 x) == w) new.0
                  (subst (λ (e : AttrEnds). D.part ends.object.0 (S.m e.object.0 x) ≡ true) (sym one) back.0)
                  (subst (λ (e : AttrEnds). (i ends.object.0 (S.m e.object.0 x) == w) ≡ true) (sym one) (eq-eqb (i object (S.m object x)) w back.1))
            ]

    -- each cell of H is the image of a cell of the one set or of the other
    cell_covered : Has H ends.object.0 w → From (restricted S.host D) i (λ x. D.cell c x ≡ true) ends.object.0 w ⊎ From (restricted S.right R) j (λ y. R.cell c y ≡ true) ends.object.0 w
    cell_covered part =
        let object : ℕ = ends.object.0 in
        elim (from_cases (restricted S.host D) i (D.cell c) object w) [
          | inl found ↦ inl found
          | inr no_host ↦
              elim (from_cases (restricted S.right R) j (R.cell c) object w) [
                | inl found ↦ inr found
                | inr no_right ↦
                    let fits = more_fits no_host no_right in
                    elim (gluing.covers object w (category.holders c ends there) part) [
                      | inl origin ↦
                          let x : ℕ = origin.0 in
                          let has = restricted_has S.host D object x origin.1 in
                          absurd (no_host (
                            x,
                            origin.1,
                            origin.2,
                            (largest.host more_host more_right fits).cells c ends x there has.0
                                (add c (D.cell c x) (D.part object x) (i object x == w) refl has.1 (eq-eqb (i object x) w origin.2)),
                          ))
                      | inr origin ↦
                          let y : ℕ = origin.0 in
                          let has = restricted_has S.right R object y origin.1 in
                          absurd (no_right (
                            y,
                            origin.1,
                            origin.2,
                            (largest.right more_host more_right fits).cells c ends y there has.0
                                (add c (R.cell c y) (R.part object y) (j object y == w) refl has.1 (eq-eqb (j object y) w origin.2)),
                          ))
                    ]
              ]
        ]

  -- a partial cocone
  module _ (E Q : Elements) (T : Instance) (d s : Map) (cocone : IsPartialCocone C S E Q T d s) where
    inside_host : IsInside C S.host E D
    inside_host = largest.host E Q cocone.fits

    inside_right : IsInside C S.right Q R
    inside_right = largest.right E Q cocone.fits

    -- v tells of each part of H whether the parts over it are in the domain, and where they go
    abbrev Marks : Map → Type 0
    Marks v = ((object x : ℕ) → object < C.objects → Has (restricted S.host D) object x → v object (i object x) ≡ marked (E.part object x) (d object x))
        × ((object y : ℕ) → object < C.objects → Has (restricted S.right R) object y → v object (j object y) ≡ marked (Q.part object y) (s object y))

    same_marks : (object z : ℕ) → object < C.objects → Has S.keep object z
        → marked (E.part object (S.m object (S.l object z))) (d object (S.m object (S.l object z))) ≡ marked (Q.part object (S.r object z)) (s object (S.r object z))
    same_marks object z below part =
        let same : E.part object (S.m object (S.l object z)) ≡ Q.part object (S.r object z) = linked_parts C S applied E Q cocone.fits object z below part in
        elim (cases_Bool (Q.part object (S.r object z))) [
          | inl in_set ↦ rw (same, in_set, cocone.agrees object z below part in_set) refl
          | inr out ↦ rw (same, out) refl
        ]

    marks : (v : Map) × Marks v
    marks =
        let chosen = choose C.objects H.names (λ object w n.
        ((x : ℕ) → Has (restricted S.host D) object x → i object x ≡ w → n ≡ marked (E.part object x) (d object x))
        × ((y : ℕ) → Has (restricted S.right R) object y → j object y ≡ w → n ≡ marked (Q.part object y) (s object y)))
        (λ object w below part.
        let factor = gluing.finest object (λ x. marked (E.part object x) (d object x)) (λ y. marked (Q.part object y) (s object y)) below
        (λ z apex. same_marks object z below (contained_in_filter (λ z. R.part object (S.r object z)) (S.keep.names object) z apex).0) in
        (factor.0 w, (λ x has is. ap factor.0 (sym is) ∙ factor.1 x has, λ y has is. ap factor.0 (sym is) ∙ factor.2 y has))) in (
          chosen.0,
          (
            (λ object x below has. (chosen.1 object (i object x) below (gluing.from_left.natural.parts object x below has)).0 x has refl),
            (λ object y below has. (chosen.1 object (j object y) below (gluing.from_right.natural.parts object y below has)).1 y has refl),
          ),
        )

    -- what is known of the cells of an attribute in the domain
    abbrev CellsOf : ℕ → AttrEnds → (ℕ → Bool) → Type 0
    CellsOf c ends f = ((x : ℕ) → Has (restricted S.host D) ends.object.0 x → D.cell c x ≡ true → f (i ends.object.0 x) ≡ E.cell c x)
        × ((y : ℕ) → Has (restricted S.right R) ends.object.0 y → R.cell c y ≡ true → f (j ends.object.0 y) ≡ Q.cell c y)

    -- a set cell is in a fitting set exactly where its part is
    set_cell : (c : ℕ) (ends : AttrEnds) (y : ℕ) → slice_get C.attributes c ≡ Some ends → Has S.right ends.object.0 y → S.set c y ≡ true → Q.cell c y ≡ Q.part ends.object.0 y
    set_cell c ends y there part given =
        same_test (Q.cell c y) (Q.part ends.object.0 y) (λ in_set. cocone.fits.right.holders c ends y there part in_set) (λ in_set. cocone.fits.sets c ends y there part in_set given)

    -- the cells of both sets over one cell of H are all in the domain, or none is
    cells_of : (v : Map) → Marks v → (c : ℕ) (ends : AttrEnds) → slice_get C.attributes c ≡ Some ends → (f : ℕ → Bool) × CellsOf c ends f
    cells_of v marked_so c ends there =
        let object : ℕ = ends.object.0 in
        let below = category.holders c ends there in
        let kept : (z : ℕ) → Has (frame_of_pair S D R).apex object z → Has S.keep object z =
        λ z apex. (contained_in_filter (λ z. R.part object (S.r object z)) (S.keep.names object) z apex).0 in
        let whole = gluing.finest object (λ x. bit (D.cell c x)) (λ y. bit (R.cell c y && not (S.set c y))) below
        (λ z apex. ap bit (linked_cells C category S applied D R largest.fits c ends z there (kept z apex))) in
        let given = gluing.finest object (λ x. bit (E.cell c x)) (λ y. bit (Q.cell c y && not (S.set c y))) below
        (λ z apex. ap bit (linked_cells C category S applied E Q cocone.fits c ends z there (kept z apex))) in
        let f : ℕ → Bool = λ w. cond (is_one (whole.0 w)) (is_one (given.0 w)) (has_mark (v object w)) in (
          f,
          (
            (λ x has in_set.
                let one : is_one (whole.0 (i object x)) ≡ true = ap is_one (whole.1 x has) ∙ one_bit (D.cell c x) ∙ in_set in
                rw one (ap is_one (given.1 x has) ∙ one_bit (E.cell c x))),
            (λ y has in_set.
                let unset : (b : Bool) → S.set c y ≡ b → f (j object y) ≡ Q.cell c y = λ b is. by_set c ends there v marked_so y has in_set b is (whole.0 (j object y)) (given.0 (j object y)) (whole.2 y has) (given.2 y has) in
                unset (S.set c y) refl),
          ),
        )
      where
        and_true : (b : Bool) → (b && not false) ≡ b
        and_true true = refl
        and_true false = refl

        by_set : (c : ℕ) (ends : AttrEnds) → slice_get C.attributes c ≡ Some ends → (v : Map) → Marks v → (y : ℕ) → Has (restricted S.right R) ends.object.0 y → R.cell c y ≡ true
            → (b : Bool) → S.set c y ≡ b → (whole given : ℕ) → whole ≡ bit (R.cell c y && not (S.set c y)) → given ≡ bit (Q.cell c y && not (S.set c y))
            → cond (is_one whole) (is_one given) (has_mark (v ends.object.0 (j ends.object.0 y))) ≡ Q.cell c y
        by_set c ends there v marked_so y has in_set true is whole given whole_is given_is =
            let none : is_one whole ≡ false = ap is_one whole_is ∙ rw (is, in_set) refl in
            rw none (ap has_mark (marked_so.1 ends.object.0 y (category.holders c ends there) has) ∙ is_marked (Q.part ends.object.0 y) (s ends.object.0 y)
            ∙ sym (set_cell c ends y there (restricted_has S.right R ends.object.0 y has).0 is))
        by_set c ends there v marked_so y has in_set false is whole given whole_is given_is =
            let one : is_one whole ≡ true = ap is_one whole_is ∙ rw (is, in_set) refl in
            rw one (ap is_one given_is ∙ one_bit (Q.cell c y && not (S.set c y)) ∙ rw is (and_true (Q.cell c y)))

    -- the domain, and where its parts go
    module _ (v : Map) (marked_so : Marks v) (cell : ℕ → ℕ → Bool) (cells : (c : ℕ) (ends : AttrEnds) → slice_get C.attributes c ≡ Some ends → CellsOf c ends (cell c)) where
      abbrev domain : Elements
      domain = record { part = λ object w. has_mark (v object w); cell = cell }

      abbrev onward : Map
      onward object w = unmarked (v object w)

      host_part : (object x : ℕ) → object < C.objects → Has (restricted S.host D) object x → domain.part object (i object x) ≡ E.part object x
      host_part object x below has = ap has_mark (marked_so.0 object x below has) ∙ is_marked (E.part object x) (d object x)

      right_part : (object y : ℕ) → object < C.objects → Has (restricted S.right R) object y → domain.part object (j object y) ≡ Q.part object y
      right_part object y below has = ap has_mark (marked_so.1 object y below has) ∙ is_marked (Q.part object y) (s object y)

      host_goes : (object x : ℕ) → object < C.objects → Has (restricted S.host D) object x → E.part object x ≡ true → onward object (i object x) ≡ d object x
      host_goes object x below has in_set = ap unmarked (marked_so.0 object x below has) ∙ rw in_set refl

      right_goes : (object y : ℕ) → object < C.objects → Has (restricted S.right R) object y → Q.part object y ≡ true → onward object (j object y) ≡ s object y
      right_goes object y below has in_set = ap unmarked (marked_so.1 object y below has) ∙ rw in_set refl

      -- the domain is a sub-instance
      domain_sub : IsSubInstance C H domain
      domain_sub = record {
        values = λ a ends w there part in_set.
            let source : ℕ = ends.source.0 in
            let target : ℕ = ends.target.0 in
            let below = category.sources a ends there in
            let above = category.targets a ends there in
            elim (gluing.covers source w below part) [
              | inl (x, has, goes, _) ↦
                  let own = restricted_has S.host D source x has in
                  let in_source : E.part source x ≡ true = sym (host_part source x below has) ∙ ap (domain.part source) goes ∙ in_set in
                  let in_target = cocone.fits.host.values a ends x there own.0 in_source in
                  let value_has = (sub_instance C category S.host D applied.host largest.fits.host).values a ends x there has in
                  ap (λ (y : ℕ). domain.part target (H.value a y)) (sym goes) ∙ ap (domain.part target) (sym (gluing.from_left.natural.commutes a ends x there has))
                  ∙ host_part target (S.host.value a x) above value_has ∙ in_target
              | inr (y, has, goes, _) ↦
                  let own = restricted_has S.right R source y has in
                  let in_source : Q.part source y ≡ true = sym (right_part source y below has) ∙ ap (domain.part source) goes ∙ in_set in
                  let in_target = cocone.fits.right.values a ends y there own.0 in_source in
                  let value_has = (sub_instance C category S.right R applied.right largest.fits.right).values a ends y there has in
                  ap (λ (y : ℕ). domain.part target (H.value a y)) (sym goes) ∙ ap (domain.part target) (sym (gluing.from_right.natural.commutes a ends y there has))
                  ∙ right_part target (S.right.value a y) above value_has ∙ in_target
            ];
        holders = λ c ends w there part in_set.
            let object : ℕ = ends.object.0 in
            let below = category.holders c ends there in
            elim (cell_covered c ends there w part) [
              | inl (x, has, goes, in_cells) ↦
                  let own = restricted_has S.host D object x has in
                  let in_cell : E.cell c x ≡ true = sym ((cells c ends there).0 x has in_cells) ∙ ap (cell c) goes ∙ in_set in
                  ap (domain.part object) (sym goes) ∙ host_part object x below has ∙ cocone.fits.host.holders c ends x there own.0 in_cell
              | inr (y, has, goes, in_cells) ↦
                  let own = restricted_has S.right R object y has in
                  let in_cell : Q.cell c y ≡ true = sym ((cells c ends there).1 y has in_cells) ∙ ap (cell c) goes ∙ in_set in
                  ap (domain.part object) (sym goes) ∙ right_part object y below has ∙ cocone.fits.right.holders c ends y there own.0 in_cell
            ];
      }

      -- a part of the domain comes from a part of the one set of the cocone or of the other
      in_domain : (object w : ℕ) → object < C.objects → Has (restricted H domain) object w
          → From (restricted S.host E) i (λ x. Has (restricted S.host D) object x) object w ⊎ From (restricted S.right Q) j (λ y. Has (restricted S.right R) object y) object w
      in_domain object w below there =
          let part = restricted_has H domain object w there in
          elim (gluing.covers object w below part.0) [
            | inl (x, has, goes, _) ↦
                let in_set : E.part object x ≡ true = sym (host_part object x below has) ∙ ap (domain.part object) goes ∙ part.1 in
                inl (x, has_restricted S.host E object x (restricted_has S.host D object x has).0 in_set, goes, has)
            | inr (y, has, goes, _) ↦
                let in_set : Q.part object y ≡ true = sym (right_part object y below has) ∙ ap (domain.part object) goes ∙ part.1 in
                inr (y, has_restricted S.right Q object y (restricted_has S.right R object y has).0 in_set, goes, has)
          ]

      onward_homomorphism : IsHomomorphism C (restricted H domain) T onward
      onward_homomorphism = record {
        natural = record {
          parts = λ object w below there.
              elim (in_domain object w below there) [
                | inl (x, has, goes, in_largest) ↦
                    subst (λ (y : ℕ). Has T object y) (sym (host_goes object x below in_largest (restricted_has S.host E object x has).1) ∙ ap (onward object) goes)
                    (cocone.from_host.natural.parts object x below has)
                | inr (y, has, goes, in_largest) ↦
                    subst (λ (y : ℕ). Has T object y) (sym (right_goes object y below in_largest (restricted_has S.right Q object y has).1) ∙ ap (onward object) goes)
                    (cocone.from_right.natural.parts object y below has)
              ];
          commutes = λ a ends w there part.
              let source : ℕ = ends.source.0 in
              let target : ℕ = ends.target.0 in
              let below = category.sources a ends there in
              let above = category.targets a ends there in
              elim (in_domain source w below part) [
                | inl (x, has, goes, in_largest) ↦
                    let value_largest = (sub_instance C category S.host D applied.host largest.fits.host).values a ends x there in_largest in
                    let value_has = (sub_instance C category S.host E applied.host cocone.fits.host).values a ends x there has in
                    ap (λ (y : ℕ). onward target (H.value a y)) (sym goes) ∙ ap (onward target) (sym (gluing.from_left.natural.commutes a ends x there in_largest))
                    ∙ host_goes target (S.host.value a x) above value_largest (restricted_has S.host E target (S.host.value a x) value_has).1
                    ∙ cocone.from_host.natural.commutes a ends x there has
                    ∙ ap (T.value a) (sym (host_goes source x below in_largest (restricted_has S.host E source x has).1) ∙ ap (onward source) goes)
                | inr (y, has, goes, in_largest) ↦
                    let value_largest = (sub_instance C category S.right R applied.right largest.fits.right).values a ends y there in_largest in
                    let value_has = (sub_instance C category S.right Q applied.right cocone.fits.right).values a ends y there has in
                    ap (λ (y : ℕ). onward target (H.value a y)) (sym goes) ∙ ap (onward target) (sym (gluing.from_right.natural.commutes a ends y there in_largest))
                    ∙ right_goes target (S.right.value a y) above value_largest (restricted_has S.right Q target (S.right.value a y) value_has).1
                    ∙ cocone.from_right.natural.commutes a ends y there has
                    ∙ ap (T.value a) (sym (right_goes source y below in_largest (restricted_has S.right Q source y has).1) ∙ ap (onward source) goes)
              ];
        };
        keeps = λ c ends w atom there part is.
            let object : ℕ = ends.object.0 in
            let below = category.holders c ends there in
            let own = restricted_has H domain object w part in
            let split = restricted_atom (cell c w) (H.cell c w) atom is in
            elim (gluing.cells c ends w atom there own.0 split.1) [
              | inl (x, has, goes, holds) ↦
                  let host = restricted_has S.host D object x has in
                  let from = restricted_atom (D.cell c x) (S.host.cell c x) atom holds in
                  let in_cell : E.cell c x ≡ true = sym ((cells c ends there).0 x has from.0) ∙ ap (cell c) goes ∙ split.0 in
                  let in_set = cocone.fits.host.holders c ends x there host.0 in_cell in
                  ap (λ (y : ℕ). T.cell c (onward object y)) (sym goes) ∙ ap (T.cell c) (host_goes object x below has in_set)
                  ∙ cocone.from_host.keeps c ends x atom there (has_restricted S.host E object x host.0 in_set) (rw in_cell from.1)
              | inr (y, has, goes, holds) ↦
                  let right = restricted_has S.right R object y has in
                  let from = restricted_atom (R.cell c y) (S.right.cell c y) atom holds in
                  let in_cell : Q.cell c y ≡ true = sym ((cells c ends there).1 y has from.0) ∙ ap (cell c) goes ∙ split.0 in
                  let in_set = cocone.fits.right.holders c ends y there right.0 in_cell in
                  ap (λ (y : ℕ). T.cell c (onward object y)) (sym goes) ∙ ap (T.cell c) (right_goes object y below has in_set)
                  ∙ cocone.from_right.keeps c ends y atom there (has_restricted S.right Q object y right.0 in_set) (rw in_cell from.1)
            ];
      }

      mediates : IsMediatingPartial C S D R H i j E Q T d s domain onward
      mediates = record {
        partial = record { domain = domain_sub; homomorphism = onward_homomorphism };
        host_parts = λ object x below part. (
          (λ in_set. let largest_in = inside_host.parts object x below part in_set in (largest_in, host_part object x below (has_restricted S.host D object x part largest_in) ∙ in_set)),
          (λ both. sym (host_part object x below (has_restricted S.host D object x part both.0)) ∙ both.1),
        );
        host_cells = λ c ends x there part. (
          (λ in_set.
              let largest_in = inside_host.cells c ends x there part in_set in
              let has = has_restricted S.host D ends.object.0 x part (largest.fits.host.holders c ends x there part largest_in) in
              (largest_in, (cells c ends there).0 x has largest_in ∙ in_set)),
          (λ both.
              let has = has_restricted S.host D ends.object.0 x part (largest.fits.host.holders c ends x there part both.0) in
              sym ((cells c ends there).0 x has both.0) ∙ both.1),
        );
        right_parts = λ object y below part. (
          (λ in_set. let largest_in = inside_right.parts object y below part in_set in (largest_in, right_part object y below (has_restricted S.right R object y part largest_in) ∙ in_set)),
          (λ both. sym (right_part object y below (has_restricted S.right R object y part both.0)) ∙ both.1),
        );
        right_cells = λ c ends y there part. (
          (λ in_set.
              let largest_in = inside_right.cells c ends y there part in_set in
              let has = has_restricted S.right R ends.object.0 y part (largest.fits.right.holders c ends y there part largest_in) in
              (largest_in, (cells c ends there).1 y has largest_in ∙ in_set)),
          (λ both.
              let has = has_restricted S.right R ends.object.0 y part (largest.fits.right.holders c ends y there part both.0) in
              sym ((cells c ends there).1 y has both.0) ∙ both.1),
        );
        from_host = λ object x below part in_set. host_goes object x below (has_restricted S.host D object x part (inside_host.parts object x below part in_set)) in_set;
        from_right = λ object y below part in_set. right_goes object y below (has_restricted S.right R object y part (inside_right.parts object y below part in_set)) in_set;
      }

    partial_mediates : (U : Elements) × (u : Map) × IsMediatingPartial C S D R H i j E Q T d s U u
    partial_mediates =
        let v : Map = marks.0 in
        let answers : (c : ℕ) → (f : ℕ → Bool) × ((ends : AttrEnds) → slice_get C.attributes c ≡ Some ends → CellsOf c ends f) =
        λ c. chosen_at (λ ends f. CellsOf c ends f) (λ w. false) (slice_get C.attributes c) (λ ends there. cells_of v marks.1 c ends there) in
        let cell : ℕ → ℕ → Bool = λ c. (answers c).0 in
        let cells : (c : ℕ) (ends : AttrEnds) → slice_get C.attributes c ≡ Some ends → CellsOf c ends (cell c) = λ c. (answers c).1 in
        (domain v marks.1 cell cells, onward v marks.1 cell cells, mediates v marks.1 cell cells)

    -- the domain of a map that commutes is given by the cocone
    module _ (U : Elements) (u : Map) (mediating : IsMediatingPartial C S D R H i j E Q T d s U u) where
      given_host_part : (object x : ℕ) → object < C.objects → Has (restricted S.host D) object x → U.part object (i object x) ≡ E.part object x
      given_host_part object x below has =
          let own = restricted_has S.host D object x has in
          let both = mediating.host_parts object x below own.0 in
          same_test (U.part object (i object x)) (E.part object x) (λ in_set. both.1 (own.1, in_set)) (λ in_set. (both.0 in_set).1)

      given_right_part : (object y : ℕ) → object < C.objects → Has (restricted S.right R) object y → U.part object (j object y) ≡ Q.part object y
      given_right_part object y below has =
          let own = restricted_has S.right R object y has in
          let both = mediating.right_parts object y below own.0 in
          same_test (U.part object (j object y)) (Q.part object y) (λ in_set. both.1 (own.1, in_set)) (λ in_set. (both.0 in_set).1)

      given_host_cell : (c : ℕ) (ends : AttrEnds) (x : ℕ) → slice_get C.attributes c ≡ Some ends → Has S.host ends.object.0 x → D.cell c x ≡ true
          → U.cell c (i ends.object.0 x) ≡ E.cell c x
      given_host_cell c ends x there part in_largest =
          let both = mediating.host_cells c ends x there part in
          same_test (U.cell c (i ends.object.0 x)) (E.cell c x) (λ in_set. both.1 (in_largest, in_set)) (λ in_set. (both.0 in_set).1)

      given_right_cell : (c : ℕ) (ends : AttrEnds) (y : ℕ) → slice_get C.attributes c ≡ Some ends → Has S.right ends.object.0 y → R.cell c y ≡ true
          → U.cell c (j ends.object.0 y) ≡ Q.cell c y
      given_right_cell c ends y there part in_largest =
          let both = mediating.right_cells c ends y there part in
          same_test (U.cell c (j ends.object.0 y)) (Q.cell c y) (λ in_set. both.1 (in_largest, in_set)) (λ in_set. (both.0 in_set).1)

    partial_unique : (U : Elements) (u : Map) (V : Elements) (v : Map) → IsMediatingPartial C S D R H i j E Q T d s U u → IsMediatingPartial C S D R H i j E Q T d s V v → AreSamePartial C H U u V v
    partial_unique U u V v first second = record {
      domain = record {
        parts = λ object w below part.
            elim (gluing.covers object w below part) [
              | inl (x, has, goes, _) ↦
                  ap (U.part object) (sym goes) ∙ given_host_part U u first object x below has ∙ sym (given_host_part V v second object x below has) ∙ ap (V.part object) goes
              | inr (y, has, goes, _) ↦
                  ap (U.part object) (sym goes) ∙ given_right_part U u first object y below has ∙ sym (given_right_part V v second object y below has) ∙ ap (V.part object) goes
            ];
        cells = λ c ends w there part.
            elim (cell_covered c ends there w part) [
              | inl (x, has, goes, in_cells) ↦
                  let own = (restricted_has S.host D ends.object.0 x has).0 in
                  ap (U.cell c) (sym goes) ∙ given_host_cell U u first c ends x there own in_cells ∙ sym (given_host_cell V v second c ends x there own in_cells) ∙ ap (V.cell c) goes
              | inr (y, has, goes, in_cells) ↦
                  let own = (restricted_has S.right R ends.object.0 y has).0 in
                  ap (U.cell c) (sym goes) ∙ given_right_cell U u first c ends y there own in_cells ∙ sym (given_right_cell V v second c ends y there own in_cells) ∙ ap (V.cell c) goes
            ];
      };
      values = λ object w below part in_set.
          elim (gluing.covers object w below part) [
            | inl (x, has, goes, _) ↦
                let own = (restricted_has S.host D object x has).0 in
                let in_cocone : E.part object x ≡ true = sym (given_host_part U u first object x below has) ∙ ap (U.part object) goes ∙ in_set in
                ap (u object) (sym goes) ∙ first.from_host object x below own in_cocone ∙ sym (second.from_host object x below own in_cocone) ∙ ap (v object) goes
            | inr (y, has, goes, _) ↦
                let own = (restricted_has S.right R object y has).0 in
                let in_cocone : Q.part object y ≡ true = sym (given_right_part U u first object y below has) ∙ ap (U.part object) goes ∙ in_set in
                ap (u object) (sym goes) ∙ first.from_right object y below own in_cocone ∙ sym (second.from_right object y below own in_cocone) ∙ ap (v object) goes
          ];
    }

-- a gluing of the largest fitting pair is an initial partial cocone
pub partial_from_gluing : (C : Signature) → IsCategory C → (S : Applied) → IsApplied C S → (D R : Elements) → IsLargestPair C S D R
    → (H : Instance) (i j : Map) → IsGluing C (frame_of_pair S D R) H i j → IsInitialPartialCocone C S D R H i j
partial_from_gluing C category S applied D R largest H i j gluing =
    let initial = pushout_from_gluing C category (frame_of_pair S D R) (sub_instance C category S.host D applied.host largest.fits.host)
    (sub_instance C category S.right R applied.right largest.fits.right) H i j gluing in
    record {
      largest = largest;
      cocone = record {
        instance = initial.cocone.instance;
        fits = largest.fits;
        from_host = gluing.from_left;
        from_right = gluing.from_right;
        agrees = λ object z below part in_set. two_ways C category S applied D R largest H i j gluing object z below part in_set;
      };
      mediating = λ E Q T d s cocone. partial_mediates C category S applied D R largest H i j gluing E Q T d s cocone;
      unique = λ E Q T d s U u V v cocone first second. partial_unique C category S applied D R largest H i j gluing E Q T d s cocone U u V v first second;
    }

-- a partial cocone with the largest pair as its pair is a cocone over its frame, and the other way round
pub cocone_of_pair : (C : Signature) (S : Applied) (D R : Elements) → IsLargestPair C S D R → (T : Instance) (d s : Map)
    → IsPartialCocone C S D R T d s ↔ IsCocone C (frame_of_pair S D R) T d s
cocone_of_pair C S D R largest T d s = (
  (λ cocone. record {
    instance = cocone.instance;
    from_left = cocone.from_host;
    from_right = cocone.from_right;
    agrees = λ object z below apex.
        let own = contained_in_filter (λ z. R.part object (S.r object z)) (S.keep.names object) z apex in
        cocone.agrees object z below own.0 own.1;
  }),
  (λ cocone. record {
    instance = cocone.instance;
    fits = largest.fits;
    from_host = cocone.from_left;
    from_right = cocone.from_right;
    agrees = λ object z below part in_set.
        cocone.agrees object z below (contains_filter (λ z. R.part object (S.r object z)) (S.keep.names object) z part in_set);
  }),
)

-- the three facts on cells, by themselves
pub cell_of_result : (C : Signature) → IsCategory C → (S : Applied) → IsApplied C S → (D R : Elements) → IsLargestPair C S D R
    → (H : Instance) (i j : Map) → IsGluing C (frame_of_pair S D R) H i j → (c : ℕ) (ends : AttrEnds) (w : ℕ) → slice_get C.attributes c ≡ Some ends → Has H ends.object.0 w
    → From (restricted S.host D) i (λ x. D.cell c x ≡ true) ends.object.0 w ⊎ From (restricted S.right R) j (λ y. R.cell c y ≡ true) ends.object.0 w
cell_of_result C category S applied D R largest H i j gluing c ends w there part = cell_covered C category S applied D R largest H i j gluing c ends there w part

-- where a set cell is over a cell of H, no cell of the host is over it
pub no_host_cell_over_set : (C : Signature) → IsCategory C → (S : Applied) → IsApplied C S → (D R : Elements) → IsLargestPair C S D R
    → (H : Instance) (i j : Map) → IsGluing C (frame_of_pair S D R) H i j → (c : ℕ) (ends : AttrEnds) (x y : ℕ) → slice_get C.attributes c ≡ Some ends
    → Has (restricted S.host D) ends.object.0 x → Has (restricted S.right R) ends.object.0 y → i ends.object.0 x ≡ j ends.object.0 y → S.set c y ≡ true → D.cell c x ≡ false
no_host_cell_over_set C category S applied D R largest H i j gluing c ends x y there x_has y_has same given =
    let object : ℕ = ends.object.0 in
    let whole = gluing.finest object (λ x. bit (D.cell c x)) (λ y. bit (R.cell c y && not (S.set c y))) (category.holders c ends there)
    (λ z apex. ap bit (linked_cells C category S applied D R largest.fits c ends z there (contained_in_filter (λ z. R.part object (S.r object z)) (S.keep.names object) z apex).0)) in
    sym (one_bit (D.cell c x)) ∙ ap is_one (sym (whole.1 x x_has) ∙ ap whole.0 same ∙ whole.2 y y_has) ∙ one_bit (R.cell c y && not (S.set c y)) ∙ rw given (none (R.cell c y))
  where
    none : (b : Bool) → (b && not true) ≡ false
    none true = refl
    none false = refl

-- sets of which each is inside the other have the same elements
inside_both : (C : Signature) (X : Instance) (E other : Elements) → IsInside C X E other → IsInside C X other E → AreSameElements C X E other
inside_both C X E other there back = record {
  parts = λ object x below part. same_test (E.part object x) (other.part object x) (there.parts object x below part) (back.parts object x below part);
  cells = λ c ends x is part. same_test (E.cell c x) (other.cell c x) (there.cells c ends x is part) (back.cells c ends x is part);
}

-- the largest fitting pair is the only one
pub largest_once : (C : Signature) (S : Applied) (D R E Q : Elements) → IsLargestPair C S D R → IsLargestPair C S E Q
    → AreSameElements C S.host D E × AreSameElements C S.right R Q
largest_once C S D R E Q first second = (
  inside_both C S.host D E (second.host D R first.fits) (first.host E Q second.fits),
  inside_both C S.right R Q (second.right D R first.fits) (first.right E Q second.fits),
)
