-- There is only one first clash.
use Rattle.std.proofs.Common.{◌≡◌, ◌∙◌, ◌<◌, ◌-◌, ℕ, List, length, Some, None, slice_index, sym, ap, subst, inl, inr, arith}
use Rattle.std.proofs.lemmas.Bool.{cases_lt, cases_order}
use Rattle.std.proofs.lemmas.List.Elements.{Contains-get_or}
use Rattle.rw_schema.specs.declared.atom.Atom.{Atom}
use Rattle.rw_schema.specs.Signature.{Signature, IsCategory}
use Rattle.rw_spec.specs.Cocone.{Frame}
use Rattle.rw_spec.specs.Instance.{IsInstance}
use Rattle.rw_spec.specs.Natural.{Map, IsNatural}
use Rattle.rw_classes.specs.Places.{count_at, cell_of}
use Rattle.rw_classes.proofs.OnlyClash.{place_cases}
use Rattle.rw_classes.proofs.Sides.{either_left, either_right}
use Rattle.rw_complement.proofs.Named.{same_left, same_right}
use Rattle.rw_complement.proofs.Tests.{same_some}
use Rattle.rw_glued.specs.Clash.{frame_without_cells, part_of_place, IsClashOf, IsFirstClashOf, Clashes}
use Rattle.rw_glued.proofs.Clashes.{bare_instance, bare_natural}

-- the first demanded atom does not stand before that of another clash of the part
not_before : (F : Frame) (d s : Map) (object c w : ℕ) (a b a' b' : Atom) (clash : IsClashOf F d s object c w a b) (other : IsClashOf F d s object c w a' b') → clash.first < other.first → ⊥
not_before F d s object c w a b a' b' clash other before =
    let blank : cell_of F object c clash.first ≡ None = other.none_before clash.first before clash.first_part in
    let has : cell_of F object c clash.first ≡ Some a = clash.first_atom in
    cc

-- the atoms of two clashes of one part are the same
same_atoms : (F : Frame) (d s : Map) (object c w : ℕ) (a b a' b' : Atom) → IsClashOf F d s object c w a b → IsClashOf F d s object c w a' b' → (a ≡ a') × (b ≡ b')
same_atoms F d s object c w a b a' b' clash other =
    let order : clash.first < clash.second = clash.order in
    let order' : other.first < other.second = other.order in
    let one : clash.first ≡ other.first =
    elim (cases_order clash.first other.first) [
      | inl same ↦ same
      | inr apart ↦
          elim apart [
            | inl before ↦ absurd (not_before F d s object c w a b a' b' clash other before)
            | inr after ↦ absurd (not_before F d s object c w a' b' a b other clash after)
          ]
    ] in
    let first : a ≡ a' = same_some (cell_of F object c other.first) a a' (ap (cell_of F object c) (sym one) ∙ clash.first_atom) other.first_atom in
    let second : b ≡ b' =
    elim (cases_order clash.second other.second) [
      | inl same ↦ same_some (cell_of F object c other.second) b b' (ap (cell_of F object c) (sym same) ∙ clash.second_atom) other.second_atom
      | inr apart ↦
          elim apart [
            | inl before ↦
                let is : b ≡ a' = other.same_between clash.second b (omega arith) before clash.second_part clash.second_atom in
                absurd (clash.differ (first ∙ sym is))
            | inr after ↦
                let is : b' ≡ a = clash.same_between other.second b' (omega arith) after other.second_part other.second_atom in
                absurd (other.differ (sym first ∙ sym is))
          ]
    ] in
    (first, second)

-- maps that send the parts at all places to the same parts have the same clashes
moved : (F : Frame) (d s d' s' : Map) (object c w : ℕ) (a b : Atom) → ((e : ℕ) → e < count_at F object → part_of_place F d s object e ≡ part_of_place F d' s' object e)
    → IsClashOf F d s object c w a b → IsClashOf F d' s' object c w a b
moved F d s d' s' object c w a b parts clash =
    let order : clash.first < clash.second = clash.order in
    let within : clash.second < count_at F object = clash.within in
    record {
      first = clash.first;
      second = clash.second;
      order = order;
      within = within;
      first_part = sym (parts clash.first (omega arith)) ∙ clash.first_part;
      second_part = sym (parts clash.second within) ∙ clash.second_part;
      first_atom = clash.first_atom;
      second_atom = clash.second_atom;
      differ = clash.differ;
      none_before = λ e before is. clash.none_before e before (parts e (omega arith) ∙ is);
      same_between = λ e atom after before is has. clash.same_between e atom after before (parts e (omega arith) ∙ is) has;
    }

module _ (C : Signature) (category : IsCategory C) (F : Frame) (left : IsInstance C F.left) (right : IsInstance C F.right) (to_left : IsNatural C F.apex F.left F.to_left)
    (next : List ℕ) (object w c : ℕ) (a b : Atom) (object' w' c' : ℕ) (a' b' : Atom) (found : Clashes C F next object w c a b) (other : Clashes C F next object' w' c' a' b')
  where
    -- parts go to the same parts
    parts_same : (object e : ℕ) → object < C.objects → e < count_at F object → part_of_place F found.d found.s object e ≡ part_of_place F other.d other.s object e
    parts_same object e known within =
        let lefts : List ℕ = F.left.names object in
        let rights : List ℕ = F.right.names object in
        let B : Frame = frame_without_cells F in
        elim (cases_lt e (length lefts)) [
          | inl here ↦
              either_left lefts rights (found.d object) (found.s object) e here
              ∙ same_left C category B (bare_instance C F.left left) (bare_instance C F.right right) (bare_natural C F.apex F.left F.to_left to_left) next found.shape other.shape
              found.d found.s other.d other.s found.pushout other.pushout found.named other.named object (slice_index lefts e) known (Contains-get_or lefts e 0 here)
              ∙ sym (either_left lefts rights (other.d object) (other.s object) e here)
          | inr past ↦
              let k : ℕ = e - length lefts in
              let k_within : k < length rights = omega arith in
              either_right lefts rights (found.d object) (found.s object) e past
              ∙ same_right C category B (bare_instance C F.left left) (bare_instance C F.right right) (bare_natural C F.apex F.left F.to_left to_left) next found.shape other.shape
              found.d found.s other.d other.s found.pushout other.pushout found.named other.named object (slice_index rights k) known (Contains-get_or rights k 0 k_within)
              ∙ sym (either_right lefts rights (other.d object) (other.s object) e past)
        ]

    -- the object of a clash is one
    known_of : (object w c : ℕ) (a b : Atom) (d s : Map) → IsFirstClashOf C F d s object w c a b → object < C.objects
    known_of object w c a b d s first = subst (λ (object : ℕ). object < C.objects) first.holder (category.holders c first.ends first.there)

    -- two first clashes are one
    pub only_clash : (object ≡ object') × (w ≡ w') × (c ≡ c') × (a ≡ a') × (b ≡ b')
    only_clash =
        let known : object < C.objects = known_of object w c a b found.d found.s found.clash in
        let known' : object' < C.objects = known_of object' w' c' a' b' other.d other.s other.clash in
        let onward : IsClashOf F other.d other.s object c w a b =
        moved F found.d found.s other.d other.s object c w a b (λ e within. parts_same object e known within) found.clash.clash in
        let back : IsClashOf F found.d found.s object' c' w' a' b' =
        moved F other.d other.s found.d found.s object' c' w' a' b' (λ e within. sym (parts_same object' e known' within)) other.clash.clash in
        elim (place_cases object w c object' w' c') [
          | inl before ↦ absurd (other.clash.least object w c found.clash.ends a b found.clash.there found.clash.holder onward before)
          | inr rest ↦
              elim rest [
                | inl after ↦ absurd (found.clash.least object' w' c' other.clash.ends a' b' other.clash.there other.clash.holder back after)
                | inr same ↦
                    let here : IsClashOf F other.d other.s object' c' w' a b =
                    subst (λ (n : ℕ). IsClashOf F other.d other.s n c' w' a b) same.same_object
                    (subst (λ (n : ℕ). IsClashOf F other.d other.s object n w' a b) same.same_attribute
                    (subst (λ (n : ℕ). IsClashOf F other.d other.s object c n a b) same.same_class onward)) in
                    let atoms = same_atoms F other.d other.s object' c' w' a b a' b' here other.clash.clash in
                    (same.same_object, same.same_class, same.same_attribute, atoms.0, atoms.1)
              ]
        ]
