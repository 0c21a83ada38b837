-- The classes of touched names and right parts give a renaming of the whole, and its cells.
use Rattle.std.proofs.Common.{◌≡◌, ◌∙◌, ◌⊎◌, ◌<◌, ◌≤◌, ◌+◌, ℕ, Bool, true, false, cond, List, Contains, length, Some, slice_get, slice_index, refl, sym, ap, subst, inl, inr, arith}
use Rattle.std.proofs.lemmas.Bool.{cases_Bool}
use Rattle.rw_schema.specs.declared.signature.AttrEnds.{AttrEnds}
use Rattle.rw_schema.specs.Signature.{Signature, IsCategory}
use Rattle.rw_spec.specs.Cocone.{Frame, IsInitialCocone}
use Rattle.rw_spec.specs.Instance.{Instance, IsInstance, Has}
use Rattle.rw_spec.specs.Natural.{Map, IsNatural}
use Rattle.rw_spec.proofs.Look.{contains_found, found_contained}
use Rattle.rw_spec.proofs.Signatures.{holder_is}
use Rattle.rw_classes.specs.Classes.{Joins}
use Rattle.rw_classes.specs.Places.{joined_at, spot, either}
use Rattle.rw_classes.proofs.Sides.{spot_within, either_left, either_spot_left, joins_either}
use Rattle.rw_delta.specs.ContextLists.{is_in}
use Rattle.rw_complement.specs.Named.{IsNamed, is_new, new_before}
use Rattle.rw_complement.proofs.Initial.{atoms_from}
use Rattle.rw_glued.specs.OneGluing.{IsNaturalFrame}
use Rattle.rw_glued.specs.Result.{Classing, HaveOneAtom, AreJoined, class_name, glued_of, left_name, right_name}
use Rattle.rw_glued.proofs.Result.{glued_is_initial, glued_is_named}
use Rattle.rw_local.specs.inner.Local.{IsRenaming, AreCells, AreLocal, narrow, only_objects, only_parts, renamed, placed, local_cell}

-- a schema without arrows and equations is a category
pub parts_category : (C : Signature) → IsCategory C → IsCategory (only_parts C)
parts_category C category = record {
  sources = λ a ends there. let no : ⊥ = cc in absurd no;
  targets = λ a ends there. let no : ⊥ = cc in absurd no;
  holders = category.holders;
  starts = λ e equation there. let no : ⊥ = cc in absurd no;
  paths = λ e equation there. let no : ⊥ = cc in absurd no;
}

-- and so is one of objects alone
objects_category : (C : Signature) → IsCategory (only_objects C)
objects_category C = record {
  sources = λ a ends there. let no : ⊥ = cc in absurd no;
  targets = λ a ends there. let no : ⊥ = cc in absurd no;
  holders = λ c ends there. let no : ⊥ = cc in absurd no;
  starts = λ e equation there. let no : ⊥ = cc in absurd no;
  paths = λ e equation there. let no : ⊥ = cc in absurd no;
}

-- over objects alone all names are an instance
objects_instance : (C : Signature) (X : Instance) → IsInstance (only_objects C) X
objects_instance C X = record {
  values = λ a ends x there has. let no : ⊥ = cc in absurd no;
  atoms = λ c ends x atom there has is. let no : ⊥ = cc in absurd no;
  equations = λ e equation x there has. let no : ⊥ = cc in absurd no;
}

-- without arrows some names of an instance are one
parts_instance : (C : Signature) → IsCategory C → (X : Instance) (names : ℕ → List ℕ) → IsInstance C X
    → ((object x : ℕ) → object < C.objects → Contains (names object) x → Has X object x)
    → IsInstance (only_parts C) (record { names = names; value = X.value; cell = X.cell })
parts_instance C category X names instance within = record {
  values = λ a ends x there has. let no : ⊥ = cc in absurd no;
  atoms = λ c ends x atom there has is. instance.atoms c ends x atom there (within ends.object.0 x (category.holders c ends there) has) is;
  equations = λ e equation x there has. let no : ⊥ = cc in absurd no;
}

-- and each map of names is natural
parts_natural : (C : Signature) (X Y : Instance) (f : Map) → ((object x : ℕ) → object < C.objects → Has X object x → Has Y object (f object x)) → IsNatural (only_parts C) X Y f
parts_natural C X Y f parts = record { parts = parts; commutes = λ a ends x there has. let no : ⊥ = cc in absurd no }

-- and each map of names is natural
objects_natural : (C : Signature) (X Y : Instance) (f : Map) → ((object x : ℕ) → object < C.objects → Has X object x → Has Y object (f object x)) → IsNatural (only_objects C) X Y f
objects_natural C X Y f parts = record { parts = parts; commutes = λ a ends x there has. let no : ⊥ = cc in absurd no }

module _ (C : Signature) (category : IsCategory C) (F : Frame) (frame : IsNaturalFrame C F)
    (next : List ℕ) (touched : ℕ → List ℕ) (numbers firsts : Classing) (local : AreLocal C F next touched numbers firsts)
  where
    -- over objects alone the touched names are joined
    objects_joined : AreJoined (only_objects C) (narrow F touched) next numbers firsts
    objects_joined = record {
      left_ascends = local.touched_ascends;
      right_ascends = local.right_ascends;
      below = λ object x known has. local.below object x known (local.in_left object x known has);
      classes = local.classes;
    }

    -- and so over parts
    pub parts_joined : AreJoined (only_parts C) (narrow F touched) next numbers firsts
    parts_joined = record {
      left_ascends = local.touched_ascends;
      right_ascends = local.right_ascends;
      below = λ object x known has. local.below object x known (local.in_left object x known has);
      classes = local.classes;
    }

    -- no attribute, no atoms
    objects_one : HaveOneAtom (only_objects C) (narrow F touched) numbers
    objects_one c ends e other a b there within other_within same is other_is = let no : ⊥ = cc in absurd no

    -- touched names are named as the step wants
    small_named : IsNamed (only_objects C) (narrow F touched) next (left_name (narrow F touched) next numbers firsts) (right_name (narrow F touched) next numbers firsts)
    small_named =
        glued_is_named (only_objects C) (objects_category C) (narrow F touched) (objects_instance C (narrow F touched).left) (objects_instance C F.right) (objects_instance C F.apex)
        (objects_natural C F.apex (narrow F touched).left F.to_left local.under) (objects_natural C F.apex F.right F.to_right frame.to_right.parts) next numbers firsts objects_joined objects_one

    -- and what the apex joins goes to one name
    small_initial : IsInitialCocone (only_objects C) (narrow F touched) (glued_of (only_objects C) (narrow F touched) next numbers firsts)
        (left_name (narrow F touched) next numbers firsts) (right_name (narrow F touched) next numbers firsts)
    small_initial =
        glued_is_initial (only_objects C) (objects_category C) (narrow F touched) (objects_instance C (narrow F touched).left) (objects_instance C F.right) (objects_instance C F.apex)
        (objects_natural C F.apex (narrow F touched).left F.to_left local.under) (objects_natural C F.apex F.right F.to_right frame.to_right.parts) next numbers firsts objects_joined objects_one

    -- what the apex joins goes to one name
    pub small_agrees : (object z : ℕ) → object < C.objects → Has F.apex object z
        → left_name (narrow F touched) next numbers firsts object (F.to_left object z) ≡ right_name (narrow F touched) next numbers firsts object (F.to_right object z)
    small_agrees object z known has = small_initial.cocone.agrees object z known has

    -- a touched name goes to a touched name
    pub small_stays : (object x : ℕ) → object < C.objects → Contains (touched object) x → Contains (touched object) (left_name (narrow F touched) next numbers firsts object x)
    small_stays object x known there = (small_named.kept object x known there).0

    -- a new part has a next name
    pub small_fresh : (object y : ℕ) → object < C.objects → Has F.right object y → is_new F object y ≡ true
        → right_name (narrow F touched) next numbers firsts object y ≡ slice_index next object + new_before F object y
    small_fresh object y known has new = small_named.fresh object y known has new

    -- a touched name goes to the name of its class
    pub renamed_touched : (object x : ℕ) → Contains (touched object) x → renamed F next touched numbers firsts object x ≡ left_name (narrow F touched) next numbers firsts object x
    renamed_touched object x there = rw (found_contained (touched object) x there) refl

    -- another name stays
    pub renamed_other : (object x : ℕ) → is_in (touched object) x ≡ false → renamed F next touched numbers firsts object x ≡ x
    renamed_other object x other = rw other refl

    -- a name is touched or not
    pub touched_or_not : (object x : ℕ) → Contains (touched object) x ⊎ (is_in (touched object) x ≡ false)
    touched_or_not object x =
        elim (cases_Bool (is_in (touched object) x)) [
          | inl found ↦ inl (contains_found (touched object) x found)
          | inr other ↦ inr other
        ]

    -- names of the whole are those that the step wants
    renamed_is_named : IsNamed C F next (renamed F next touched numbers firsts) (placed F next touched numbers firsts)
    renamed_is_named = record {
      kept = λ object x known has.
          let d : ℕ → ℕ = renamed F next touched numbers firsts object in
          let l : ℕ → ℕ = left_name (narrow F touched) next numbers firsts object in
          elim (touched_or_not object x) [
            | inl there ↦
                let small = small_named.kept object x known there in
                let is : d x ≡ l x = renamed_touched object x there in
                let again : d (l x) ≡ l (l x) = renamed_touched object (l x) small.0 in
                let low : l x ≤ x = small.2 in (
                  subst (Has F.left object) (sym is) (local.in_left object (l x) known small.0),
                  ap d is ∙ again ∙ small.1 ∙ sym is,
                  subst (λ (n : ℕ). n ≤ x) (sym is) low,
                )
            | inr other ↦
                let is : d x ≡ x = renamed_other object x other in (
                  subst (Has F.left object) (sym is) has,
                  ap d is,
                  omega (arith, is),
                )
          ];
      fresh = small_named.fresh;
    }

    -- a function that does not tell apart what is joined does not tell a touched name from the name of its class
    small_finest : (object : ℕ) (h t : ℕ → ℕ) (x : ℕ) → object < C.objects
        → ((z : ℕ) → Has F.apex object z → h (F.to_left object z) ≡ t (F.to_right object z)) → Contains (touched object) x
        → h (left_name (narrow F touched) next numbers firsts object x) ≡ h x
    small_finest object h t x known agree there =
        let lefts : List ℕ = touched object in
        let rights : List ℕ = F.right.names object in
        let classes = local.classes object known in
        let p : ℕ = spot lefts x in
        let p_within : p < length lefts = spot_within lefts x there in
        let e : ℕ = slice_index (firsts object) (slice_index (numbers object) p) in
        let least : e ≤ p = classes.numbered.least p (omega arith) in
        let e_within : e < length lefts = omega arith in
        let name : class_name (narrow F touched) next object e ≡ slice_index lefts e =
        either_left lefts rights (λ x. x) (λ y. slice_index next object + new_before F object y) e e_within in
        let joins : Joins (joined_at (narrow F touched) object) (either lefts rights h t) =
        joins_either lefts rights (F.apex.names object) (F.to_left object) (F.to_right object) h t
        (λ z has. local.under object z known has) (λ z has. frame.to_right.parts object z known has) agree in
        ap h name
        ∙ sym (either_left lefts rights h t e e_within)
        ∙ classes.finest (either lefts rights h t) joins p (omega arith)
        ∙ either_spot_left lefts rights h t x there

    -- the classes of touched names give a renaming of the whole
    pub renamed_is : IsRenaming C F next (renamed F next touched numbers firsts) (placed F next touched numbers firsts)
    renamed_is = record {
      named = renamed_is_named;
      agrees = λ object z known has. renamed_touched object (F.to_left object z) (local.under object z known has) ∙ small_initial.cocone.agrees object z known has;
      finest = λ object h t x known agree has.
          elim (touched_or_not object x) [
            | inl there ↦ ap h (renamed_touched object x there) ∙ small_finest object h t x known agree there
            | inr other ↦ ap h (renamed_other object x other)
          ];
    }

    -- the touched names and the right side, without arrows
    pub small_frame : IsNaturalFrame (only_parts C) (narrow F touched)
    small_frame = record {
      apex = parts_instance C category F.apex F.apex.names frame.apex (λ object x known has. has);
      left = parts_instance C category F.left touched frame.left local.in_left;
      right = parts_instance C category F.right F.right.names frame.right (λ object x known has. has);
      to_left = parts_natural C F.apex (narrow F touched).left F.to_left local.under;
      to_right = parts_natural C F.apex F.right F.to_right frame.to_right.parts;
    }

    module _ (one : HaveOneAtom C (narrow F touched) numbers) where
      -- where the atoms of each class are one, the classes are an initial cocone over the touched names, arrows left out
      parts_initial : IsInitialCocone (only_parts C) (narrow F touched) (glued_of (only_parts C) (narrow F touched) next numbers firsts)
          (left_name (narrow F touched) next numbers firsts) (right_name (narrow F touched) next numbers firsts)
      parts_initial =
          glued_is_initial (only_parts C) (parts_category C category) (narrow F touched) small_frame.left small_frame.right small_frame.apex
          small_frame.to_left small_frame.to_right next numbers firsts parts_joined one

      -- the cell of a touched name
      pub cell_touched : (c : ℕ) (ends : AttrEnds) (w : ℕ) → slice_get C.attributes c ≡ Some ends → Contains (touched ends.object.0) w
          → local_cell C F next touched numbers firsts c w ≡ (glued_of (only_parts C) (narrow F touched) next numbers firsts).cell c w
      cell_touched c ends w there has =
          ap (λ (b : Bool). cond b ((glued_of C (narrow F touched) next numbers firsts).cell c w) (F.left.cell c w))
          (ap (λ (o : ℕ). is_in (touched o) w) (holder_is C c ends there) ∙ found_contained (touched ends.object.0) w has)

      -- and of another
      pub cell_other : (c : ℕ) (ends : AttrEnds) (w : ℕ) → slice_get C.attributes c ≡ Some ends → is_in (touched ends.object.0) w ≡ false
          → local_cell C F next touched numbers firsts c w ≡ F.left.cell c w
      cell_other c ends w there other =
          ap (λ (b : Bool). cond b ((glued_of C (narrow F touched) next numbers firsts).cell c w) (F.left.cell c w))
          (ap (λ (o : ℕ). is_in (touched o) w) (holder_is C c ends there) ∙ other)

      -- so cells are those of the classes where names are touched, else their own
      pub local_cells : AreCells C F (renamed F next touched numbers firsts) (placed F next touched numbers firsts) (local_cell C F next touched numbers firsts)
      local_cells = record {
        of_left = λ c ends x atom there has is.
            let known : ends.object.0 < C.objects = category.holders c ends there in
            elim (touched_or_not ends.object.0 x) [
              | inl small ↦
                  ap (local_cell C F next touched numbers firsts c) (renamed_touched ends.object.0 x small)
                  ∙ cell_touched c ends (left_name (narrow F touched) next numbers firsts ends.object.0 x) there (small_named.kept ends.object.0 x known small).0
                  ∙ parts_initial.cocone.from_left.keeps c ends x atom there small is
              | inr other ↦
                  ap (local_cell C F next touched numbers firsts c) (renamed_other ends.object.0 x other)
                  ∙ cell_other c ends x there other ∙ is
            ];
        of_right = λ c ends z atom there has is.
            let known : ends.object.0 < C.objects = category.holders c ends there in
            let s : ℕ → ℕ = right_name (narrow F touched) next numbers firsts ends.object.0 in
            let x : ℕ = F.to_left ends.object.0 z in
            let same : left_name (narrow F touched) next numbers firsts ends.object.0 x ≡ s (F.to_right ends.object.0 z) = small_initial.cocone.agrees ends.object.0 z known has in
            cell_touched c ends (s (F.to_right ends.object.0 z)) there
            (subst (Contains (touched ends.object.0)) same (small_named.kept ends.object.0 x known (local.under ends.object.0 z known has)).0)
            ∙ parts_initial.cocone.from_right.keeps c ends (F.to_right ends.object.0 z) atom there (frame.to_right.parts ends.object.0 z known has) is;
        from_some = λ c ends w atom there has stays is.
            let object : ℕ = ends.object.0 in
            let known : object < C.objects = category.holders c ends there in
            elim (touched_or_not object w) [
              | inl small ↦
                  let own : left_name (narrow F touched) next numbers firsts object w ≡ w = sym (renamed_touched object w small) ∙ stays in
                  let there_too : Has (glued_of (only_parts C) (narrow F touched) next numbers firsts) object w =
                  subst (Has (glued_of (only_parts C) (narrow F touched) next numbers firsts) object) own (parts_initial.cocone.from_left.natural.parts object w known small) in
                  elim (atoms_from (only_parts C) (parts_category C category) (narrow F touched) small_frame.left small_frame.right
                  (glued_of (only_parts C) (narrow F touched) next numbers firsts)
                  (left_name (narrow F touched) next numbers firsts) (right_name (narrow F touched) next numbers firsts) parts_initial
                  c ends w atom there there_too (sym (cell_touched c ends w there small) ∙ is)) [
                    | inl (x, has_x, goes, is_x) ↦ inl (x, local.in_left object x known has_x, renamed_touched object x has_x ∙ goes, is_x)
                    | inr origin ↦ inr origin
                  ]
              | inr other ↦ inl (w, has, stays, sym (cell_other c ends w there other) ∙ is)
            ];
      }
