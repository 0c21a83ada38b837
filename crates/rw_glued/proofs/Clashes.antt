-- A clash of two parts of one class is a clash of what is glued, and then there is no cocone.
use Rattle.std.proofs.Common.{◌≡◌, ◌∙◌, ◌⊎◌, ◌<◌, ◌+◌, ◌-◌, ℕ, List, length, Some, None, slice_index, refl, sym, ap, subst, inl, inr, arith}
use Rattle.std.proofs.lemmas.Bool.{cases_lt, cases_order}
use Rattle.std.proofs.lemmas.List.Elements.{Contains-get_or}
use Rattle.rw_schema.specs.declared.atom.Atom.{Atom}
use Rattle.rw_schema.specs.declared.signature.AttrEnds.{AttrEnds}
use Rattle.rw_schema.specs.RowLists.{list_at}
use Rattle.rw_schema.specs.Signature.{Signature, IsCategory}
use Rattle.rw_spec.specs.Cocone.{Frame, IsCocone}
use Rattle.rw_spec.specs.Instance.{Instance, IsInstance}
use Rattle.rw_spec.specs.Natural.{Map, IsNatural}
use Rattle.rw_spec.proofs.Ascending.{ascends_distinct}
use Rattle.rw_classes.specs.FirstClash.{IsClashAt, IsFirstClash}
use Rattle.rw_classes.specs.Places.{count_at, either, cell_of}
use Rattle.rw_classes.proofs.NoCocone.{carried}
use Rattle.rw_classes.proofs.Sides.{spot_at, either_left, either_right}
use Rattle.rw_complement.proofs.Tests.{same_some}
use Rattle.rw_glued.specs.Clash.{without_cells, frame_without_cells, part_of_place, IsClashOf, IsFirstClashOf, Clashes}
use Rattle.rw_glued.specs.Result.{Classing, class_name, name_at, left_name, right_name, glued_of, HaveOneAtom, AreJoined}
use Rattle.rw_glued.proofs.Result.{glued_is_initial, glued_is_named, names_order}

-- without cells an instance is one
pub bare_instance : (C : Signature) (X : Instance) → IsInstance C X → IsInstance C (without_cells X)
bare_instance C X is = record {
  values = is.values;
  atoms = λ c ends x atom there has blank. let no : ⊥ = cc in absurd no;
  equations = is.equations;
}

-- a natural map is one without cells
pub bare_natural : (C : Signature) (X Y : Instance) (f : Map) → IsNatural C X Y f → IsNatural C (without_cells X) (without_cells Y) f
bare_natural C X Y f is = record { parts = is.parts; commutes = is.commutes }

-- a cocone is one over the frame without cells
bare_cocone : (C : Signature) (F : Frame) (T : Instance) (d s : Map) → IsCocone C F T d s → IsCocone C (frame_without_cells F) T d s
bare_cocone C F T d s cocone = record {
  instance = cocone.instance;
  from_left = record {
    natural = record { parts = cocone.from_left.natural.parts; commutes = cocone.from_left.natural.commutes };
    keeps = λ c ends x atom there has blank. let no : ⊥ = cc in absurd no;
  };
  from_right = record {
    natural = record { parts = cocone.from_right.natural.parts; commutes = cocone.from_right.natural.commutes };
    keeps = λ c ends x atom there has blank. let no : ⊥ = cc in absurd no;
  };
  agrees = cocone.agrees;
}

-- no part of the frame without cells has an atom
bare_blank : (F : Frame) (object c e : ℕ) → cell_of (frame_without_cells F) object c e ≡ None
bare_blank F object c e =
    elim (cases_lt e (length (F.left.names object))) [
      | inl here ↦ either_left (F.left.names object) (F.right.names object) (λ x. None) (λ y. None) e here
      | inr past ↦ either_right (F.left.names object) (F.right.names object) (λ x. None) (λ y. None) e past
    ]

-- so the atoms of each class are one
bare_one_atom : (C : Signature) (F : Frame) (numbers : Classing) → HaveOneAtom C (frame_without_cells F) numbers
bare_one_atom C F numbers c ends e other a b there within other_within same is other_is =
    let blank : cell_of (frame_without_cells F) ends.object.0 c e ≡ None = bare_blank F ends.object.0 c e in
    let no : ⊥ = cc in absurd no

-- where atoms clash there is no cocone
pub no_cocone_at_clash : (C : Signature) → IsCategory C → (F : Frame) (next : List ℕ) (object w c : ℕ) (a b : Atom) → Clashes C F next object w c a b
    → (T : Instance) (d s : Map) → IsCocone C F T d s → ⊥
no_cocone_at_clash C category F next object w c a b found T d s cocone =
    let clash = found.clash.clash in
    let holder : AttrEnds = found.clash.ends in
    let own : ℕ = holder.object.0 in
    let known : own < C.objects = category.holders c holder found.clash.there in
    let onward = found.pushout.mediating T d s (bare_cocone C F T d s cocone) in
    let u : Map = onward.0 in
    let image : (e : ℕ) → e < count_at F own → u own (part_of_place F found.d found.s own e) ≡ either (F.left.names own) (F.right.names own) (d own) (s own) e =
    λ e within.
    elim (cases_lt e (length (F.left.names own))) [
      | inl here ↦
          ap (u own) (either_left (F.left.names own) (F.right.names own) (found.d own) (found.s own) e here)
          ∙ onward.1.from_left own (slice_index (F.left.names own) e) known (Contains-get_or (F.left.names own) e 0 here)
          ∙ sym (either_left (F.left.names own) (F.right.names own) (d own) (s own) e here)
      | inr past ↦
          let k : ℕ = e - length (F.left.names own) in
          let k_within : k < length (F.right.names own) = omega arith in
          ap (u own) (either_right (F.left.names own) (F.right.names own) (found.d own) (found.s own) e past)
          ∙ onward.1.from_right own (slice_index (F.right.names own) k) known (Contains-get_or (F.right.names own) k 0 k_within)
          ∙ sym (either_right (F.left.names own) (F.right.names own) (d own) (s own) e past)
    ] in
    let at : (e : ℕ) (atom : Atom) → e < count_at F own → part_of_place F found.d found.s own e ≡ w → cell_of F own c e ≡ Some atom → T.cell c (u own w) ≡ Some atom =
    λ e atom within part is.
    ap (λ (w : ℕ). T.cell c (u own w)) (sym part) ∙ ap (T.cell c) (image e within) ∙ carried C F c holder T d s found.clash.there cocone e atom within is in
    let is : own ≡ object = found.clash.holder in
    let second_within : clash.second < count_at F own = subst (λ (object : ℕ). clash.second < count_at F object) (sym is) clash.within in
    let order : clash.first < clash.second = clash.order in
    let first_within : clash.first < count_at F own = omega arith in
    let first : T.cell c (u own w) ≡ Some a =
    at clash.first a first_within (subst (λ (object : ℕ). part_of_place F found.d found.s object clash.first ≡ w) (sym is) clash.first_part)
    (subst (λ (object : ℕ). cell_of F object c clash.first ≡ Some a) (sym is) clash.first_atom) in
    let second : T.cell c (u own w) ≡ Some b =
    at clash.second b second_within (subst (λ (object : ℕ). part_of_place F found.d found.s object clash.second ≡ w) (sym is) clash.second_part)
    (subst (λ (object : ℕ). cell_of F object c clash.second ≡ Some b) (sym is) clash.second_atom) in
    clash.differ (same_some (T.cell c (u own w)) a b first second)

module _ (C : Signature) (category : IsCategory C) (F : Frame) (left : IsInstance C F.left) (right : IsInstance C F.right) (apex : IsInstance C F.apex)
    (to_left : IsNatural C F.apex F.left F.to_left) (to_right : IsNatural C F.apex F.right F.to_right)
    (next : List ℕ) (numbers firsts : List (List ℕ)) (joined : AreJoined C F next (list_at numbers) (list_at firsts))
  where
    -- names of classes are ordered as their numbers are
    order_of : (object i j : ℕ) → object < C.objects → i < j → j < length (list_at firsts object)
        → class_name F next object (slice_index (list_at firsts object) i) < class_name F next object (slice_index (list_at firsts object) j)
    order_of = names_order C category F left right apex to_left to_right next (list_at numbers) (list_at firsts) joined

    -- the part to which a part goes has the name of its class
    part_is : (object e : ℕ) → object < C.objects → e < count_at F object
        → part_of_place F (left_name F next (list_at numbers) (list_at firsts)) (right_name F next (list_at numbers) (list_at firsts)) object e
        ≡ name_at F next (list_at numbers) (list_at firsts) object e
    part_is object e known within =
        let lefts : List ℕ = F.left.names object in
        let rights : List ℕ = F.right.names object in
        let d : ℕ → ℕ = left_name F next (list_at numbers) (list_at firsts) object in
        let s : ℕ → ℕ = right_name F next (list_at numbers) (list_at firsts) object in
        elim (cases_lt e (length lefts)) [
          | inl here ↦
              either_left lefts rights d s e here
              ∙ ap (name_at F next (list_at numbers) (list_at firsts) object) (spot_at lefts e (ascends_distinct lefts (joined.left_ascends object known)) here)
          | inr past ↦
              let k : ℕ = e - length lefts in
              let k_within : k < length rights = omega arith in
              let whole : length lefts + k ≡ e = omega arith in
              either_right lefts rights d s e past
              ∙ ap (λ (k : ℕ). name_at F next (list_at numbers) (list_at firsts) object (length lefts + k)) (spot_at rights k (ascends_distinct rights (joined.right_ascends object known)) k_within)
              ∙ ap (name_at F next (list_at numbers) (list_at firsts) object) whole
        ]

    -- a part that goes to the name of a class is of the class
    class_from : (object e w : ℕ) → object < C.objects → e < count_at F object → w < length (list_at firsts object)
        → part_of_place F (left_name F next (list_at numbers) (list_at firsts)) (right_name F next (list_at numbers) (list_at firsts)) object e
        ≡ class_name F next object (slice_index (list_at firsts object) w)
        → slice_index (list_at numbers object) e ≡ w
    class_from object e w known within w_within is =
        let own : ℕ = slice_index (list_at numbers object) e in
        let own_within : own < length (list_at firsts object) = (joined.classes object known).numbered.within e within in
        let same : class_name F next object (slice_index (list_at firsts object) own) ≡ class_name F next object (slice_index (list_at firsts object) w) =
        sym (part_is object e known within) ∙ is in
        elim (cases_order own w) [
          | inl one ↦ one
          | inr apart ↦
              elim apart [
                | inl before ↦ let less = order_of object own w known before w_within in absurd (omega (arith, same, less))
                | inr after ↦ let less = order_of object w own known after own_within in absurd (omega (arith, same, less))
              ]
        ]

    -- and the other way round
    part_from : (object e w : ℕ) → object < C.objects → e < count_at F object → slice_index (list_at numbers object) e ≡ w
        → part_of_place F (left_name F next (list_at numbers) (list_at firsts)) (right_name F next (list_at numbers) (list_at firsts)) object e
        ≡ class_name F next object (slice_index (list_at firsts object) w)
    part_from object e w known within is =
        part_is object e known within ∙ ap (λ (k : ℕ). class_name F next object (slice_index (list_at firsts object) k)) is

    -- a clash of a class is one of its name
    clash_of_name : (object c w : ℕ) (a b : Atom) → object < C.objects → IsClashAt F (list_at numbers object) object c w a b
        → IsClashOf F (left_name F next (list_at numbers) (list_at firsts)) (right_name F next (list_at numbers) (list_at firsts)) object c
        (class_name F next object (slice_index (list_at firsts object) w)) a b
    clash_of_name object c w a b known (first, second, clash) =
        let each : length (list_at numbers object) ≡ count_at F object = (joined.classes object known).numbered.each in
        let within : second < count_at F object = omega (arith, clash.within) in
        let first_within : first < count_at F object = omega (arith, clash.order) in
        let w_within : w < length (list_at firsts object) =
        subst (λ (w : ℕ). w < length (list_at firsts object)) clash.first_class ((joined.classes object known).numbered.within first first_within) in
        record {
          first = first;
          second = second;
          order = clash.order;
          within = within;
          first_part = part_from object first w known first_within clash.first_class;
          second_part = part_from object second w known within clash.second_class;
          first_atom = clash.first_atom;
          second_atom = clash.second_atom;
          differ = clash.differ;
          none_before = λ e before is. clash.none_before e before (class_from object e w known (omega arith) w_within is);
          same_between = λ e atom after before is has. clash.same_between e atom after before (class_from object e w known (omega arith) w_within is) has;
        }

    -- a clash of a name is one of the class
    clash_of_class : (object c v : ℕ) (a b : Atom) → object < C.objects
        → (clash : IsClashOf F (left_name F next (list_at numbers) (list_at firsts)) (right_name F next (list_at numbers) (list_at firsts)) object c v a b)
        → IsClashAt F (list_at numbers object) object c (slice_index (list_at numbers object) clash.first) a b
    clash_of_class object c v a b known clash =
        let each : length (list_at numbers object) ≡ count_at F object = (joined.classes object known).numbered.each in
        let second_within : clash.second < count_at F object = clash.within in
        let order : clash.first < clash.second = clash.order in
        let first_within : clash.first < count_at F object = omega arith in
        let w : ℕ = slice_index (list_at numbers object) clash.first in
        let w_within : w < length (list_at firsts object) = (joined.classes object known).numbered.within clash.first first_within in
        let name : v ≡ class_name F next object (slice_index (list_at firsts object) w) = sym clash.first_part ∙ part_is object clash.first known first_within in (
          clash.first,
          clash.second,
          record {
            order = order;
            within = omega (arith, each);
            first_class = refl;
            second_class = class_from object clash.second w known second_within w_within (clash.second_part ∙ name);
            first_atom = clash.first_atom;
            second_atom = clash.second_atom;
            differ = clash.differ;
            none_before = λ e before is. clash.none_before e before (part_from object e w known (omega arith) is ∙ sym name);
            same_between = λ e atom after before is has. clash.same_between e atom after before (part_from object e w known (omega arith) is ∙ sym name) has;
          },
        )

    -- the first clash of classes is the first of names
    pub first_clash_named : (object w c : ℕ) (a b : Atom) → IsFirstClash C F numbers object w c a b
        → IsFirstClashOf C F (left_name F next (list_at numbers) (list_at firsts)) (right_name F next (list_at numbers) (list_at firsts)) object
        (class_name F next object (slice_index (list_at firsts object) w)) c a b
    first_clash_named object w c a b first =
        let known : object < C.objects = subst (λ (object : ℕ). object < C.objects) first.holder (category.holders c first.ends first.there) in
        let place : ℕ = first.clash.0 in
        let order : place < first.clash.1 = first.clash.2.order in
        let in_list : first.clash.1 < length (list_at numbers object) = first.clash.2.within in
        let each : length (list_at numbers object) ≡ count_at F object = (joined.classes object known).numbered.each in
        let place_within : place < count_at F object = omega arith in
        let w_within : w < length (list_at firsts object) =
        subst (λ (w : ℕ). w < length (list_at firsts object)) first.clash.2.first_class ((joined.classes object known).numbered.within place place_within) in
        record {
          ends = first.ends;
          there = first.there;
          holder = first.holder;
          clash = clash_of_name object c w a b known first.clash;
          least = λ object' v' c' ends' a' b' there' holder' clash' earlier.
              let known' : object' < C.objects = subst (λ (object : ℕ). object < C.objects) holder' (category.holders c' ends' there') in
              let w' : ℕ = slice_index (list_at numbers object') clash'.first in
              let order' : clash'.first < clash'.second = clash'.order in
              let in' : clash'.second < count_at F object' = clash'.within in
              let first' : clash'.first < count_at F object' = omega arith in
              let w'_within : w' < length (list_at firsts object') = (joined.classes object' known').numbered.within clash'.first first' in
              let name' : v' ≡ class_name F next object' (slice_index (list_at firsts object') w') = sym clash'.first_part ∙ part_is object' clash'.first known' first' in
              let class' = clash_of_class object' c' v' a' b' known' clash' in
              first.least object' w' c' ends' a' b' there' holder' class'
              (elim earlier [
                | inl before ↦ inl before
                | inr (same, later) ↦ inr (same, earlier_class object' object w' w c' c v' known same w'_within w_within name' later)
              ]);
        }
      where
        -- a name that comes before another is that of an earlier class
        earlier_class : (object' object w' w c' c v' : ℕ) → object < C.objects → object' ≡ object → w' < length (list_at firsts object') → w < length (list_at firsts object)
            → v' ≡ class_name F next object' (slice_index (list_at firsts object') w')
            → (v' < class_name F next object (slice_index (list_at firsts object) w)) ⊎ ((v' ≡ class_name F next object (slice_index (list_at firsts object) w)) × (c' < c))
            → (w' < w) ⊎ ((w' ≡ w) × (c' < c))
        earlier_class object' object w' w c' c v' known same w'_within w_within name' later =
            let name : ℕ → ℕ = λ k. class_name F next object (slice_index (list_at firsts object) k) in
            let is : v' ≡ name w' = subst (λ (object : ℕ). v' ≡ class_name F next object (slice_index (list_at firsts object) w')) same name' in
            let within : w' < length (list_at firsts object) = subst (λ (object : ℕ). w' < length (list_at firsts object)) same w'_within in
            elim (cases_order w' w) [
              | inl one ↦
                  elim later [
                    | inl less ↦ let equal : name w' ≡ name w = ap name one in absurd (omega (arith, is, equal, less))
                    | inr (equal, attribute) ↦ inr (one, attribute)
                  ]
              | inr apart ↦
                  elim apart [
                    | inl before ↦ inl before
                    | inr after ↦
                        let greater : name w < name w' = order_of object w w' known after within in
                        elim later [
                          | inl less ↦ absurd (omega (arith, is, greater, less))
                          | inr (equal, attribute) ↦ absurd (omega (arith, is, greater, equal))
                        ]
                  ]
            ]

    -- the first clash of classes is a clash of what is glued
    pub clashes_from_classes : (object w c : ℕ) (a b : Atom) → IsFirstClash C F numbers object w c a b
        → Clashes C F next object (class_name F next object (slice_index (list_at firsts object) w)) c a b
    clashes_from_classes object w c a b first =
        let B : Frame = frame_without_cells F in
        let bare : AreJoined C B next (list_at numbers) (list_at firsts) =
        record { left_ascends = joined.left_ascends; right_ascends = joined.right_ascends; below = joined.below; classes = joined.classes } in
        let one = bare_one_atom C F (list_at numbers) in
        let to_left' = bare_natural C F.apex F.left F.to_left to_left in
        let to_right' = bare_natural C F.apex F.right F.to_right to_right in
        record {
          shape = glued_of C B next (list_at numbers) (list_at firsts);
          d = left_name F next (list_at numbers) (list_at firsts);
          s = right_name F next (list_at numbers) (list_at firsts);
          pushout = glued_is_initial C category B (bare_instance C F.left left) (bare_instance C F.right right) (bare_instance C F.apex apex) to_left' to_right' next (list_at numbers) (list_at firsts) bare one;
          named = glued_is_named C category B (bare_instance C F.left left) (bare_instance C F.right right) (bare_instance C F.apex apex) to_left' to_right' next (list_at numbers) (list_at firsts) bare one;
          clash = first_clash_named object w c a b first;
        }
