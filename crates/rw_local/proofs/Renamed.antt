-- The result under a renaming is glued of both sides: an initial cocone, named as the renaming is.
use Rattle.std.proofs.Common.{◌≡◌, ◌∙◌, ◌⊎◌, ◌==◌, ◌<◌, ◌≤◌, ◌+◌, ℕ, true, filter, map, List, [], ◌∷◌, Contains, Option, Some, slice_get, slice_index, sym, ap, subst, inl, inr, arith, eqb-true}
use Rattle.std.specs.List.{list_any}
use Rattle.std.proofs.lemmas.Bool.{cases_Bool, cases_eq, cases_order, eq-eqb, ne_eqb, not-false}
use Rattle.std.proofs.lemmas.List.Elements.{Contains-append_left, Contains-append_right, Contains-append_cases}
use Rattle.rw_schema.specs.declared.atom.Atom.{Atom}
use Rattle.rw_schema.specs.declared.signature.ArrowEnds.{ArrowEnds}
use Rattle.rw_schema.specs.declared.signature.AttrEnds.{AttrEnds}
use Rattle.rw_schema.specs.Signature.{Signature, IsCategory}
use Rattle.rw_spec.specs.Cocone.{Frame, IsInitialCocone}
use Rattle.rw_spec.specs.Ends.{target_of}
use Rattle.rw_spec.specs.Instance.{Instance, IsInstance, Has, look}
use Rattle.rw_spec.specs.Natural.{Map}
use Rattle.rw_spec.specs.Same.{AreSame}
use Rattle.rw_spec.proofs.Look.{contains_cases, look_missing}
use Rattle.rw_spec.proofs.Sequences.{contains_filter, contained_in_filter, contains_here, contains_later, contains_map, contained_in_map}
use Rattle.rw_spec.proofs.Signatures.{source_is, holder_is, target_is}
use Rattle.rw_universal.specs.Gluing.{IsGluing, Through}
use Rattle.rw_universal.proofs.Gluing.{pushout_from_gluing}
use Rattle.rw_complement.specs.Named.{is_new, new_parts, new_before}
use Rattle.rw_complement.proofs.Tests.{some_from}
use Rattle.rw_glued.specs.OneGluing.{IsNaturalFrame}
use Rattle.rw_glued.proofs.Counts.{less_more}
use Rattle.rw_redex.proofs.Listing.{homomorphism_to_same}
use Rattle.rw_local.specs.inner.Local.{IsRenaming, AreCells, is_least, new_names, wanted}

-- the entry beside a name's image is the name's, where no other name has that image
pub look_map : {A : Type 0} (none : A) (f : ℕ → ℕ) (g : ℕ → A) (ys : List ℕ) (y : ℕ) → Contains ys y
    → ((z : ℕ) → Contains ys z → f z ≡ f y → z ≡ y) → look none (map f ys) (map g ys) (f y) ≡ g y
look_map none f g [] y there only = absurd (omega (arith, there.1))
look_map none f g (z ∷ ys) y there only =
    elim (cases_eq (f z) (f y)) [
      | inl here ↦ rw (eq-eqb (f z) (f y) here) (ap g (only z (contains_here z ys) here))
      | inr other ↦ rw (ne_eqb (f z) (f y) other) (elim (contains_cases z ys y there) [
        | inl same ↦ absurd (other (ap f same))
        | inr later ↦ look_map none f g ys y later (λ w has is. only w (contains_later z ys w has) is)
      ])
    ]

-- a right part is new, or the image of a part of the apex
pub new_or_old : (F : Frame) (object y : ℕ) → (is_new F object y ≡ true) ⊎ ((z : ℕ) × Has F.apex object z × (F.to_right object z ≡ y))
new_or_old F object y =
    elim (cases_Bool (is_new F object y)) [
      | inl new ↦ inl new
      | inr old ↦
          let found = some_from (λ z. F.to_right object z == y) (F.apex.names object) (not-false (list_any (λ z. F.to_right object z == y) (F.apex.names object)) old) in
          inr (found.0, found.1, eqb-true (F.to_right object found.0) y found.2)
    ]

module _ (C : Signature) (category : IsCategory C) (F : Frame) (frame : IsNaturalFrame C F)
    (next : List ℕ) (below : (object x : ℕ) → object < C.objects → Has F.left object x → x < slice_index next object)
    (d s : Map) (renaming : IsRenaming C F next d s)
  where
    -- a new part is a right part, and new
    new_is : (object y : ℕ) → Contains (new_parts F object) y → Has F.right object y × (is_new F object y ≡ true)
    new_is object y there = contained_in_filter (is_new F object) (F.right.names object) y there

    -- the name of a new part is a next name
    name_of_new : (object y : ℕ) → object < C.objects → Contains (new_parts F object) y → s object y ≡ slice_index next object + new_before F object y
    name_of_new object y known there = renaming.named.fresh object y known (new_is object y there).0 (new_is object y there).1

    -- new parts have different names
    pub new_apart : (object y z : ℕ) → object < C.objects → Contains (new_parts F object) y → Contains (new_parts F object) z → s object z ≡ s object y → z ≡ y
    new_apart object y z known there has same =
        let first : s object y ≡ slice_index next object + new_before F object y = name_of_new object y known there in
        let second : s object z ≡ slice_index next object + new_before F object z = name_of_new object z known has in
        elim (cases_order z y) [
          | inl one ↦ one
          | inr apart ↦ elim apart [
            | inl before ↦ let fewer : new_before F object z < new_before F object y = less_more (new_parts F object) z y has before in absurd (omega (arith, same, first, second, fewer))
            | inr after ↦ let fewer : new_before F object y < new_before F object z = less_more (new_parts F object) y z there after in absurd (omega (arith, same, first, second, fewer))
          ]
        ]

    -- a new name is none of the left side
    pub new_past : (object w : ℕ) → object < C.objects → Contains (new_names F s object) w → slice_index next object ≤ w
    new_past object w known there =
        let found = contained_in_map (s object) (new_parts F object) w there in
        let is : s object found.0 ≡ slice_index next object + new_before F object found.0 = name_of_new object found.0 known found.1 in
        let same : s object found.0 ≡ w = found.2 in
        omega (arith, is, same)

    -- so a name of the left side is not found among new names
    pub old_missing : (object x : ℕ) → object < C.objects → Has F.left object x → Contains (new_names F s object) x → ⊥
    old_missing object x known has there =
        let past : slice_index next object ≤ x = new_past object x known there in
        let under : x < slice_index next object = below object x known has in
        omega (arith, past, under)

    -- a left part goes to a name of the result
    left_goes : (cell : ℕ → ℕ → Option Atom) (object x : ℕ) → object < C.objects → Has F.left object x → Has (wanted C F d s cell) object (d object x)
    left_goes cell object x known has =
        let named = renaming.named.kept object x known has in
        Contains-append_left (filter (is_least d object) (F.left.names object)) (new_names F s object) (d object x)
        (contains_filter (is_least d object) (F.left.names object) (d object x) named.0 (eq-eqb (d object (d object x)) (d object x) named.1))

    -- an image of the apex goes where the left part goes
    old_goes : (object z y : ℕ) → object < C.objects → Has F.apex object z → F.to_right object z ≡ y → s object y ≡ d object (F.to_left object z)
    old_goes object z y known has is = ap (s object) (sym is) ∙ sym (renaming.agrees object z known has)

    -- a right part goes to a name of the result
    right_goes : (cell : ℕ → ℕ → Option Atom) (object y : ℕ) → object < C.objects → Has F.right object y → Has (wanted C F d s cell) object (s object y)
    right_goes cell object y known has =
        elim (new_or_old F object y) [
          | inl new ↦
              Contains-append_right (filter (is_least d object) (F.left.names object)) (new_names F s object) (s object y)
              (contains_map (s object) (new_parts F object) y (contains_filter (is_new F object) (F.right.names object) y has new))
          | inr (z, has_z, is) ↦
              subst (Has (wanted C F d s cell) object) (sym (old_goes object z y known has_z is))
              (left_goes cell object (F.to_left object z) known (frame.to_left.parts object z known has_z))
        ]

    -- a name of the result is a left part that stays, or that of a new part
    name_cases : (cell : ℕ → ℕ → Option Atom) (object w : ℕ) → Has (wanted C F d s cell) object w
        → (Has F.left object w × (d object w ≡ w)) ⊎ ((y : ℕ) × Contains (new_parts F object) y × (s object y ≡ w))
    name_cases cell object w has =
        elim (Contains-append_cases (filter (is_least d object) (F.left.names object)) (new_names F s object) w has) [
          | inl old ↦
              let kept = contained_in_filter (is_least d object) (F.left.names object) w old in
              inl (kept.0, eqb-true (d object w) w kept.1)
          | inr new ↦ inr (contained_in_map (s object) (new_parts F object) w new)
        ]

    -- where an arrow leads from a name of the left side
    pub value_old : (cell : ℕ → ℕ → Option Atom) (a : ℕ) (ends : ArrowEnds) (w : ℕ) → slice_get C.arrows a ≡ Some ends → Has F.left ends.source.0 w
        → (wanted C F d s cell).value a w ≡ d ends.target.0 (F.left.value a w)
    value_old cell a ends w there has =
        ap (λ (o : ℕ). look (d (target_of C a) (F.left.value a w)) (new_names F s o) (map (λ y. s (target_of C a) (F.right.value a y)) (new_parts F o)) w) (source_is C a ends there)
        ∙ look_missing (d (target_of C a) (F.left.value a w)) (new_names F s ends.source.0) (map (λ y. s (target_of C a) (F.right.value a y)) (new_parts F ends.source.0)) w
        (old_missing ends.source.0 w (category.sources a ends there) has)
        ∙ ap (λ (o : ℕ). d o (F.left.value a w)) (target_is C a ends there)

    -- and from a new part
    pub value_new : (cell : ℕ → ℕ → Option Atom) (a : ℕ) (ends : ArrowEnds) (y : ℕ) → slice_get C.arrows a ≡ Some ends → Contains (new_parts F ends.source.0) y
        → (wanted C F d s cell).value a (s ends.source.0 y) ≡ s ends.target.0 (F.right.value a y)
    value_new cell a ends y there has =
        let w : ℕ = s ends.source.0 y in
        let known : ends.source.0 < C.objects = category.sources a ends there in
        ap (λ (o : ℕ). look (d (target_of C a) (F.left.value a w)) (new_names F s o) (map (λ y. s (target_of C a) (F.right.value a y)) (new_parts F o)) w) (source_is C a ends there)
        ∙ look_map (d (target_of C a) (F.left.value a w)) (s ends.source.0) (λ y. s (target_of C a) (F.right.value a y)) (new_parts F ends.source.0) y has
        (λ z has_z same. new_apart ends.source.0 y z known has has_z same)
        ∙ ap (λ (o : ℕ). s o (F.right.value a y)) (target_is C a ends there)

    -- the cell of a name of the left side
    pub cell_old : (cell : ℕ → ℕ → Option Atom) (c : ℕ) (ends : AttrEnds) (w : ℕ) → slice_get C.attributes c ≡ Some ends → Has F.left ends.object.0 w
        → (wanted C F d s cell).cell c w ≡ cell c w
    cell_old cell c ends w there has =
        ap (λ (o : ℕ). look (cell c w) (new_names F s o) (map (F.right.cell c) (new_parts F o)) w) (holder_is C c ends there)
        ∙ look_missing (cell c w) (new_names F s ends.object.0) (map (F.right.cell c) (new_parts F ends.object.0)) w
        (old_missing ends.object.0 w (category.holders c ends there) has)

    -- and of a new part
    pub cell_new : (cell : ℕ → ℕ → Option Atom) (c : ℕ) (ends : AttrEnds) (y : ℕ) → slice_get C.attributes c ≡ Some ends → Contains (new_parts F ends.object.0) y
        → (wanted C F d s cell).cell c (s ends.object.0 y) ≡ F.right.cell c y
    cell_new cell c ends y there has =
        let w : ℕ = s ends.object.0 y in
        ap (λ (o : ℕ). look (cell c w) (new_names F s o) (map (F.right.cell c) (new_parts F o)) w) (holder_is C c ends there)
        ∙ look_map (cell c w) (s ends.object.0) (F.right.cell c) (new_parts F ends.object.0) y has
        (λ z has_z same. new_apart ends.object.0 y z (category.holders c ends there) has has_z same)

    -- rows of a name lead where those of its new name lead
    row_of_class : (a : ℕ) (ends : ArrowEnds) (x : ℕ) → slice_get C.arrows a ≡ Some ends → Has F.left ends.source.0 x
        → d ends.target.0 (F.left.value a (d ends.source.0 x)) ≡ d ends.target.0 (F.left.value a x)
    row_of_class a ends x there has =
        renaming.finest ends.source.0 (λ x. d ends.target.0 (F.left.value a x)) (λ y. s ends.target.0 (F.right.value a y)) x (category.sources a ends there)
        (λ z has_z.
        ap (d ends.target.0) (sym (frame.to_left.commutes a ends z there has_z))
        ∙ renaming.agrees ends.target.0 (F.apex.value a z) (category.targets a ends there) (frame.apex.values a ends z there has_z)
        ∙ ap (s ends.target.0) (frame.to_right.commutes a ends z there has_z))
        has

    -- the result commutes with d
    left_commutes : (cell : ℕ → ℕ → Option Atom) (a : ℕ) (ends : ArrowEnds) (x : ℕ) → slice_get C.arrows a ≡ Some ends → Has F.left ends.source.0 x
        → d ends.target.0 (F.left.value a x) ≡ (wanted C F d s cell).value a (d ends.source.0 x)
    left_commutes cell a ends x there has =
        sym (value_old cell a ends (d ends.source.0 x) there (renaming.named.kept ends.source.0 x (category.sources a ends there) has).0
        ∙ row_of_class a ends x there has)

    -- and with s
    right_commutes : (cell : ℕ → ℕ → Option Atom) (a : ℕ) (ends : ArrowEnds) (y : ℕ) → slice_get C.arrows a ≡ Some ends → Has F.right ends.source.0 y
        → s ends.target.0 (F.right.value a y) ≡ (wanted C F d s cell).value a (s ends.source.0 y)
    right_commutes cell a ends y there has =
        let known : ends.source.0 < C.objects = category.sources a ends there in
        elim (new_or_old F ends.source.0 y) [
          | inl new ↦ sym (value_new cell a ends y there (contains_filter (is_new F ends.source.0) (F.right.names ends.source.0) y has new))
          | inr (z, has_z, is) ↦
              let x : ℕ = F.to_left ends.source.0 z in
              ap (λ (y : ℕ). s ends.target.0 (F.right.value a y)) (sym is)
              ∙ ap (s ends.target.0) (sym (frame.to_right.commutes a ends z there has_z))
              ∙ sym (renaming.agrees ends.target.0 (F.apex.value a z) (category.targets a ends there) (frame.apex.values a ends z there has_z))
              ∙ ap (d ends.target.0) (frame.to_left.commutes a ends z there has_z)
              ∙ left_commutes cell a ends x there (frame.to_left.parts ends.source.0 z known has_z)
              ∙ ap ((wanted C F d s cell).value a) (sym (old_goes ends.source.0 z y known has_z is))
        ]

    -- a function of both sides that agrees on the apex is one of the names
    factor : (object : ℕ) (first second : ℕ → ℕ) → object < C.objects
        → ((z : ℕ) → Has F.apex object z → first (F.to_left object z) ≡ second (F.to_right object z))
        → (v : ℕ → ℕ) × Through F.left d object first v × Through F.right s object second v
    factor object first second known agree =
        let v : ℕ → ℕ = λ w. look (first w) (new_names F s object) (map second (new_parts F object)) w in
        let on_left : (x : ℕ) → Has F.left object x → v (d object x) ≡ first x =
        λ x has.
        look_missing (first (d object x)) (new_names F s object) (map second (new_parts F object)) (d object x)
        (old_missing object (d object x) known (renaming.named.kept object x known has).0)
        ∙ renaming.finest object first second x known agree has in (
          v,
          on_left,
          λ y has.
              elim (new_or_old F object y) [
                | inl new ↦
                    let there : Contains (new_parts F object) y = contains_filter (is_new F object) (F.right.names object) y has new in
                    look_map (first (s object y)) (s object) second (new_parts F object) y there (λ z has_z same. new_apart object y z known there has_z same)
                | inr (z, has_z, is) ↦
                    ap v (old_goes object z y known has_z is)
                    ∙ on_left (F.to_left object z) (frame.to_left.parts object z known has_z)
                    ∙ agree z has_z ∙ ap second is
              ],
        )

    module _ (cell : ℕ → ℕ → Option Atom) (cells : AreCells C F d s cell) where
      -- the result is glued of both sides
      pub wanted_is_gluing : IsGluing C F (wanted C F d s cell) d s
      wanted_is_gluing = record {
        values = λ a ends w there has.
            elim (name_cases cell ends.source.0 w has) [
              | inl (old, stays) ↦
                  subst (Has (wanted C F d s cell) ends.target.0) (sym (value_old cell a ends w there old))
                  (left_goes cell ends.target.0 (F.left.value a w) (category.targets a ends there) (frame.left.values a ends w there old))
              | inr (y, new, is) ↦
                  subst (Has (wanted C F d s cell) ends.target.0) (sym (ap ((wanted C F d s cell).value a) (sym is) ∙ value_new cell a ends y there new))
                  (right_goes cell ends.target.0 (F.right.value a y) (category.targets a ends there) (frame.right.values a ends y there (new_is ends.source.0 y new).0))
            ];
        from_left = record {
          natural = record { parts = left_goes cell; commutes = left_commutes cell };
          keeps = λ c ends x atom there has is.
              cell_old cell c ends (d ends.object.0 x) there (renaming.named.kept ends.object.0 x (category.holders c ends there) has).0
              ∙ cells.of_left c ends x atom there has is;
        };
        from_right = record {
          natural = record { parts = right_goes cell; commutes = right_commutes cell };
          keeps = λ c ends y atom there has is.
              let known : ends.object.0 < C.objects = category.holders c ends there in
              elim (new_or_old F ends.object.0 y) [
                | inl new ↦ cell_new cell c ends y there (contains_filter (is_new F ends.object.0) (F.right.names ends.object.0) y has new) ∙ is
                | inr (z, has_z, same) ↦
                    let x : ℕ = F.to_left ends.object.0 z in
                    ap ((wanted C F d s cell).cell c) (old_goes ends.object.0 z y known has_z same)
                    ∙ cell_old cell c ends (d ends.object.0 x) there (renaming.named.kept ends.object.0 x known (frame.to_left.parts ends.object.0 z known has_z)).0
                    ∙ ap (cell c) (renaming.agrees ends.object.0 z known has_z)
                    ∙ cells.of_right c ends z atom there has_z (ap (F.right.cell c) same ∙ is)
              ];
        };
        agrees = renaming.agrees;
        covers = λ object w known has.
            elim (name_cases cell object w has) [
              | inl (old, stays) ↦ inl (w, old, stays, tt)
              | inr (y, new, is) ↦ inr (y, (new_is object y new).0, is, tt)
            ];
        finest = factor;
        cells = λ c ends w atom there has is.
            elim (name_cases cell ends.object.0 w has) [
              | inl (old, stays) ↦ cells.from_some c ends w atom there old stays (sym (cell_old cell c ends w there old) ∙ is)
              | inr (y, new, same) ↦
                  inr (y, (new_is ends.object.0 y new).0, same, sym (cell_new cell c ends y there new) ∙ ap ((wanted C F d s cell).cell c) same ∙ is)
            ];
      }

      -- it is an initial cocone
      pub wanted_is_initial : IsInitialCocone C F (wanted C F d s cell) d s
      wanted_is_initial = pushout_from_gluing C category F frame.left frame.right (wanted C F d s cell) d s wanted_is_gluing

-- an instance that is one with what is glued is glued
pub gluing_of_same : (C : Signature) → IsCategory C → (F : Frame) (H H' : Instance) (d s : Map) → AreSame C H H' → IsInstance C H' → IsGluing C F H d s → IsGluing C F H' d s
gluing_of_same C category F H H' d s same instance glued = record {
  values = instance.values;
  from_left = homomorphism_to_same C category F.left H H' d same glued.from_left;
  from_right = homomorphism_to_same C category F.right H H' s same glued.from_right;
  agrees = glued.agrees;
  covers = λ object w known has. glued.covers object w known ((same.names object w known).1 has);
  finest = glued.finest;
  cells = λ c ends w atom there has is.
      let in_H : Has H ends.object.0 w = (same.names ends.object.0 w (category.holders c ends there)).1 has in
      glued.cells c ends w atom there in_H (same.cells c ends w there in_H ∙ is);
}
