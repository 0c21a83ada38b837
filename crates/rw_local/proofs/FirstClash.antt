-- Of what is glued either the atoms of each part are one, or there is a first clash.
use Rattle.std.proofs.Common.{◌≡◌, ◌≢◌, ◌∙◌, ◌⊎◌, ◌<◌, ℕ, zero, suc, true, length, Option, Some, None, slice_get, refl, sym, ap, subst, inl, inr, arith}
use Rattle.std.proofs.lemmas.Bool.{cases_Bool, cases_eq, cases_lt, cases_order, both_ways}
use Rattle.std.proofs.lemmas.Option.{slice_get_within}
use Rattle.rw_schema.specs.declared.atom.Atom.{Atom}
use Rattle.rw_schema.specs.declared.signature.AttrEnds.{AttrEnds}
use Rattle.rw_schema.specs.Atoms.{is_same_atom}
use Rattle.rw_schema.specs.Signature.{Signature}
use Rattle.rw_schema.proofs.SameAtoms.{one_atom, same_as_itself}
use Rattle.rw_spec.specs.Cocone.{Frame}
use Rattle.rw_spec.specs.Natural.{Map}
use Rattle.rw_classes.specs.Places.{count_at, cell_of}
use Rattle.rw_complement.proofs.Tests.{same_some}
use Rattle.rw_glued.specs.Clash.{part_of_place, IsClashOf, IsFirstClashOf}

-- of the numbers below n the least with a property that is decided, or none
pub least_or_none : (P : ℕ → Type 0) (n : ℕ) → ((k : ℕ) → P k ⊎ (P k → ⊥))
    → ((k : ℕ) × (k < n) × P k × ((j : ℕ) → j < k → P j → ⊥)) ⊎ ((k : ℕ) → k < n → P k → ⊥)
least_or_none P zero decided = inr (λ k below has. omega arith)
least_or_none P (suc n) decided =
    elim (least_or_none P n decided) [
      | inl (k, below, has, least) ↦ inl (k, omega arith, has, least)
      | inr none ↦
          elim (decided n) [
            | inl has ↦ inl (n, omega arith, has, none)
            | inr fails ↦ inr (λ k below has.
                elim (cases_eq k n) [
                  | inl same ↦ fails (subst P same has)
                  | inr other ↦ none k (omega arith) has
                ])
          ]
    ]

-- two atoms are one or not
pub atoms_or_not : (a b : Atom) → (a ≡ b) ⊎ (a ≢ b)
atoms_or_not a b =
    elim (cases_Bool (is_same_atom a b)) [
      | inl same ↦ inl (one_atom a b same)
      | inr differs ↦ inr (λ equal. both_ways (is_same_atom a b) differs (subst (λ (c : Atom). is_same_atom a c ≡ true) equal (same_as_itself a)))
    ]

-- a cell has an atom, or it is blank
atom_or_blank : (cell : Option Atom) → ((a : Atom) × (cell ≡ Some a)) ⊎ (cell ≡ None)
atom_or_blank None = inr refl
atom_or_blank (Some a) = inl (a, refl)

-- the atom is demanded at the place, of the part
abbrev pub Demanded : Frame → Map → Map → ℕ → ℕ → ℕ → ℕ → Type 0
Demanded F d s object c w e = (part_of_place F d s object e ≡ w) × ((a : Atom) × (cell_of F object c e ≡ Some a))

-- an atom that is not a is demanded there
abbrev pub DemandedOther : Frame → Map → Map → ℕ → ℕ → ℕ → Atom → ℕ → Type 0
DemandedOther F d s object c w a e = (part_of_place F d s object e ≡ w) × ((b : Atom) × (cell_of F object c e ≡ Some b) × (a ≢ b))

-- atoms of one part are one
abbrev pub IsOneAtom : Frame → Map → Map → ℕ → ℕ → ℕ → Type 0
IsOneAtom F d s object c w = (e other : ℕ) (a b : Atom) → e < count_at F object → other < count_at F object
    → part_of_place F d s object e ≡ w → part_of_place F d s object other ≡ w → cell_of F object c e ≡ Some a → cell_of F object c other ≡ Some b → a ≡ b

module _ (F : Frame) (d s : Map) (object c w : ℕ) where
  -- an atom is demanded at the place, or none is
  demanded_or_not : (e : ℕ) → Demanded F d s object c w e ⊎ (Demanded F d s object c w e → ⊥)
  demanded_or_not e =
      elim (cases_eq (part_of_place F d s object e) w) [
        | inl goes ↦ elim (atom_or_blank (cell_of F object c e)) [
          | inl (a, has) ↦ inl (goes, (a, has))
          | inr blank ↦ inr (λ demanded. let has : cell_of F object c e ≡ Some demanded.1.0 = demanded.1.1 in let no : ⊥ = cc in absurd no)
        ]
        | inr other ↦ inr (λ demanded. other demanded.0)
      ]

  -- one that is not a is demanded there, or none is
  other_or_not : (a : Atom) (e : ℕ) → DemandedOther F d s object c w a e ⊎ (DemandedOther F d s object c w a e → ⊥)
  other_or_not a e =
      elim (demanded_or_not e) [
        | inl (goes, (b, has)) ↦ elim (atoms_or_not a b) [
          | inl same ↦ inr (λ demanded. demanded.1.2 (same ∙ same_some (cell_of F object c e) b demanded.1.0 has demanded.1.1))
          | inr differs ↦ inl (goes, (b, has, differs))
        ]
        | inr none ↦ inr (λ demanded. none (demanded.0, (demanded.1.0, demanded.1.1)))
      ]

  -- a part has a clash, or its atoms are one
  pub clash_or_one : ((a : Atom) × (b : Atom) × IsClashOf F d s object c w a b) ⊎ IsOneAtom F d s object c w
  clash_or_one =
      elim (least_or_none (Demanded F d s object c w) (count_at F object) demanded_or_not) [
        | inr none ↦ inr (λ e other a b within other_within goes other_goes has other_has. absurd (none e within (goes, (a, has))))
        | inl (first, first_within, (first_goes, (a, first_has)), before) ↦
            elim (least_or_none (DemandedOther F d s object c w a) (count_at F object) (other_or_not a)) [
              | inr none ↦ inr (λ e other b b' within other_within goes other_goes has other_has.
                  elim (atoms_or_not a b) [
                    | inr differs ↦ absurd (none e within (goes, (b, has, differs)))
                    | inl one ↦ elim (atoms_or_not a b') [
                      | inr differs ↦ absurd (none other other_within (other_goes, (b', other_has, differs)))
                      | inl too ↦ sym one ∙ too
                    ]
                  ])
              | inl (second, second_within, (second_goes, (b, second_has, differs)), between) ↦
                  inl (
                    a,
                    b,
                    record {
                      first = first;
                      second = second;
                      order = elim (cases_order first second) [
                        | inl same ↦ absurd (differs (same_some (cell_of F object c second) a b (subst (λ (e : ℕ). cell_of F object c e ≡ Some a) same first_has) second_has))
                        | inr apart ↦ elim apart [
                          | inl less ↦ less
                          | inr more ↦ absurd (before second more (second_goes, (b, second_has)))
                        ]
                      ];
                      within = second_within;
                      first_part = first_goes;
                      second_part = second_goes;
                      first_atom = first_has;
                      second_atom = second_has;
                      differ = differs;
                      none_before = λ e less goes. elim (atom_or_blank (cell_of F object c e)) [
                        | inl (other, has) ↦ absurd (before e less (goes, (other, has)))
                        | inr blank ↦ blank
                      ];
                      same_between = λ e atom more less goes has. elim (atoms_or_not a atom) [
                        | inl one ↦ sym one
                        | inr other ↦ absurd (between e less (goes, (atom, has, other)))
                      ];
                    },
                  )
            ]
      ]

-- there is a clash of the attribute at the name
abbrev pub ClashesAt : Signature → Frame → Map → Map → ℕ → ℕ → ℕ → Type 0
ClashesAt C F d s object w c =
    (ends : AttrEnds) × (slice_get C.attributes c ≡ Some ends) × (ends.object.0 ≡ object) × (a : Atom) × (b : Atom) × IsClashOf F d s object c w a b

-- at the name, with its least attribute
abbrev pub ClashesAtName : Signature → Frame → Map → Map → ℕ → ℕ → Type 0
ClashesAtName C F d s object w = (c : ℕ) × ClashesAt C F d s object w c × ((c' : ℕ) → c' < c → ClashesAt C F d s object w c' → ⊥)

-- at the object, with its least name
abbrev pub ClashesAtObject : Signature → Frame → Map → Map → ℕ → Type 0
ClashesAtObject C F d s object = (w : ℕ) × ClashesAtName C F d s object w × ((w' : ℕ) → w' < w → ClashesAtName C F d s object w' → ⊥)

module _ (C : Signature) (F : Frame) (d s : Map) (bound : ℕ → ℕ) (below : (object e : ℕ) → object < C.objects → e < count_at F object → part_of_place F d s object e < bound object) where
  -- an attribute is there, or it is not
  ends_or_not : (c : ℕ) (found : Option AttrEnds) → slice_get C.attributes c ≡ found → ((ends : AttrEnds) × (slice_get C.attributes c ≡ Some ends)) ⊎ (slice_get C.attributes c ≡ None)
  ends_or_not c None is = inr is
  ends_or_not c (Some ends) is = inl (ends, is)

  -- there is a clash of the attribute at the name, or there is none
  at_or_not : (object w c : ℕ) → ClashesAt C F d s object w c ⊎ (ClashesAt C F d s object w c → ⊥)
  at_or_not object w c =
      elim (ends_or_not c (slice_get C.attributes c) refl) [
        | inr none ↦ inr (λ clash. let is : slice_get C.attributes c ≡ Some clash.0 = clash.1 in let no : ⊥ = cc in absurd no)
        | inl (ends, there) ↦
            elim (cases_eq ends.object.0 object) [
              | inr other ↦ inr (λ clash. other (ap (λ (ends : AttrEnds). ends.object.0) (same_ends (slice_get C.attributes c) ends clash.0 there clash.1) ∙ clash.2))
              | inl holder ↦
                  elim (clash_or_one F d s object c w) [
                    | inl (a, b, clash) ↦ inl (ends, there, holder, a, b, clash)
                    | inr one ↦ inr (λ clash.
                        let it : IsClashOf F d s object c w clash.3 clash.4 = clash.5 in
                        let order : it.first < it.second = it.order in
                        let within : it.second < count_at F object = it.within in
                        it.differ (one it.first it.second clash.3 clash.4 (omega arith) within it.first_part it.second_part it.first_atom it.second_atom))
                  ]
            ]
      ]
    where
      same_ends : (found : Option AttrEnds) (a b : AttrEnds) → found ≡ Some a → found ≡ Some b → a ≡ b
      same_ends found a b first second = cc

  -- an attribute at which there is a clash is one
  attribute_within : (object w c : ℕ) → ClashesAt C F d s object w c → c < length C.attributes
  attribute_within object w c clash = slice_get_within C.attributes c clash.0 clash.1

  -- there is one at the name with its least attribute, or there is none
  name_or_not : (object w : ℕ) → ClashesAtName C F d s object w ⊎ (ClashesAtName C F d s object w → ⊥)
  name_or_not object w =
      elim (least_or_none (ClashesAt C F d s object w) (length C.attributes) (at_or_not object w)) [
        | inl (c, within, clash, least) ↦ inl (c, clash, least)
        | inr none ↦ inr (λ found. none found.0 (attribute_within object w found.0 found.1) found.1)
      ]

  -- a clash of some attribute is one of the name
  name_of : (object w c : ℕ) → ClashesAt C F d s object w c → (ClashesAtName C F d s object w → ⊥) → ⊥
  name_of object w c clash none =
      elim (least_or_none (ClashesAt C F d s object w) (length C.attributes) (at_or_not object w)) [
        | inl (c', within, clash', least) ↦ none (c', clash', least)
        | inr nowhere ↦ nowhere c (attribute_within object w c clash) clash
      ]

  -- the name of a clash is below the bound
  name_within : (object w c : ℕ) → object < C.objects → ClashesAt C F d s object w c → w < bound object
  name_within object w c known clash =
      let it : IsClashOf F d s object c w clash.3 clash.4 = clash.5 in
      let within : it.second < count_at F object = it.within in
      subst (λ (w : ℕ). w < bound object) it.second_part (below object it.second known within)

  -- there is one at the object with its least name, or there is none
  object_or_not : (object : ℕ) → object < C.objects → ClashesAtObject C F d s object ⊎ (ClashesAtObject C F d s object → ⊥)
  object_or_not object known =
      elim (least_or_none (ClashesAtName C F d s object) (bound object) (name_or_not object)) [
        | inl (w, within, clash, least) ↦ inl (w, clash, least)
        | inr none ↦ inr (λ found. none found.0 (name_within object found.0 found.1.0 known found.1.1) found.1)
      ]

  -- a clash of some name is one of the object
  object_of : (object w : ℕ) → object < C.objects → ClashesAtName C F d s object w → (ClashesAtObject C F d s object → ⊥) → ⊥
  object_of object w known clash none =
      elim (least_or_none (ClashesAtName C F d s object) (bound object) (name_or_not object)) [
        | inl (w', within, clash', least) ↦ none (w', clash', least)
        | inr nowhere ↦ nowhere w (name_within object w clash.0 known clash.1) clash
      ]

  -- there is a first clash, or none at all
  pub first_clash_or_none : ((object : ℕ) × (w : ℕ) × (c : ℕ) × (a : Atom) × (b : Atom) × IsFirstClashOf C F d s object w c a b)
      ⊎ ((object w c : ℕ) → object < C.objects → ClashesAt C F d s object w c → ⊥)
  first_clash_or_none =
      elim (least_or_none (λ object. (object < C.objects) × ClashesAtObject C F d s object) C.objects decided) [
        | inr none ↦ inr (λ object w c known clash. name_of object w c clash (λ at_name. object_of object w known at_name (λ at_object. none object known (known, at_object))))
        | inl (object, known, (known', (w, (c, clash, least_attribute), least_name)), least_object) ↦
            inl (
              object,
              w,
              c,
              clash.3,
              clash.4,
              record {
                ends = clash.0;
                there = clash.1;
                holder = clash.2;
                clash = clash.5;
                least = λ object' w' c' ends' a' b' there' holder' clash' earlier.
                    let at : ClashesAt C F d s object' w' c' = (ends', there', holder', a', b', clash') in
                    elim earlier [
                      | inl before ↦
                          let within' : object' < C.objects = omega (arith, known, before) in
                          name_of object' w' c' at (λ at_name. object_of object' w' within' at_name (λ at_object. least_object object' before (within', at_object)))
                      | inr (same, later) ↦
                          let here : ClashesAt C F d s object w' c' = subst (λ (o : ℕ). ClashesAt C F d s o w' c') same at in
                          elim later [
                            | inl before ↦ name_of object w' c' here (λ at_name. least_name w' before at_name)
                            | inr (equal, before) ↦ least_attribute c' before (subst (λ (w : ℕ). ClashesAt C F d s object w c') equal here)
                          ]
                    ];
              },
            )
      ]
    where
      decided : (object : ℕ) → ((object < C.objects) × ClashesAtObject C F d s object) ⊎ ((object < C.objects) × ClashesAtObject C F d s object → ⊥)
      decided object =
          elim (cases_lt object C.objects) [
            | inl known ↦ elim (object_or_not object known) [
              | inl clash ↦ inl (known, clash)
              | inr none ↦ inr (λ found. none found.1)
            ]
            | inr past ↦ inr (λ found. let known : object < C.objects = found.0 in omega arith)
          ]

  -- where there is none, the atoms of each part are one
  pub one_without_clash : ((object w c : ℕ) → object < C.objects → ClashesAt C F d s object w c → ⊥) → (c : ℕ) (ends : AttrEnds) (w : ℕ) → slice_get C.attributes c ≡ Some ends → ends.object.0 < C.objects
      → IsOneAtom F d s ends.object.0 c w
  one_without_clash none c ends w there known =
      elim (clash_or_one F d s ends.object.0 c w) [
        | inl (a, b, clash) ↦ absurd (none ends.object.0 w c known (ends, there, refl, a, b, clash))
        | inr one ↦ one
      ]
