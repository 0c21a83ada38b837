-- What each complement is like. A cocone that keeps its parts, and those parts of left that do not stay, apart from one another
-- shows that they are apart in the host.
use Rattle.std.proofs.Common.{◌≡◌, ◌∙◌, ◌⊎◌, ◌==◌, ◌<◌, ◌+◌, ◌++◌, ℕ, suc, not, filter, map, Contains, List, Option, Some, None, slice_get, refl, sym, ap, subst, inl, inr, arith, eqb-true}
use Rattle.std.specs.List.{find}
use Rattle.std.proofs.lemmas.Bool.{both_ways, eq-eqb, false_from_ne_true, not-true, not_from_false}
use Rattle.std.proofs.lemmas.List.Elements.{Contains-append_left, Contains-append_right, Contains-append_cases}
use Rattle.rw_schema.specs.declared.signature.ArrowEnds.{ArrowEnds}
use Rattle.rw_schema.specs.declared.signature.AttrEnds.{AttrEnds}
use Rattle.rw_schema.specs.Signature.{Signature, IsCategory, source_of, holder_of}
use Rattle.rw_spec.specs.Cocone.{IsCocone, IsMediating}
use Rattle.rw_spec.specs.Ends.{target_of}
use Rattle.rw_spec.specs.Instance.{Instance, IsInstance, Has}
use Rattle.rw_spec.specs.Natural.{Map, IsNatural}
use Rattle.rw_spec.specs.Redex.{Redex}
use Rattle.rw_spec.proofs.Sequences.{contains_filter, contained_in_filter, contains_map, contained_in_map}
use Rattle.rw_spec.proofs.Signatures.{source_is, target_is, holder_is}
use Rattle.rw_universal.proofs.Gluing.{equation_at_image}
use Rattle.rw_complement.specs.Complement.{IsComplement, left_frame}
use Rattle.rw_complement.specs.Context.{is_kept}
use Rattle.rw_complement.specs.Redex.{IsRedex, CanBeGlued, IsKept, IsInjective}
use Rattle.rw_complement.proofs.Initial.{covers}
use Rattle.rw_complement.proofs.Parts.{kept_from, kept_test, kept_or_not}
use Rattle.rw_complement.proofs.Tests.{find_only, find_none}

-- what f gives of what was found, or the other number
abbrev pub pick : Option ℕ → (ℕ → ℕ) → ℕ → ℕ
pick (Some x) f other = f x
pick None f other = other

-- a part of the complement has an even number
abbrev pub even : Map
even object x = x + x

-- a part of left has the number of the part of keep that it is the image of, or else an odd one
abbrev pub number_of_left : Redex → Map → Map
number_of_left R k object y = pick (find (λ z. R.l object z == y) (R.keep.names object)) (λ z. k object z + k object z) (suc (y + y))

-- the part of the host that a number stands for
abbrev pub stands_for : Redex → Instance → Map → Map
stands_for R D e object w =
    pick (find (λ x. x + x == w) (D.names object)) (e object) (pick (find (λ y. suc (y + y) == w) (R.left.names object)) (R.m object) 0)

-- where an arrow leads from a number, where its ends are given
abbrev pub number_after : Redex → Instance → Map → ℕ → ℕ → ℕ → ℕ → ℕ
number_after R D k source target a w =
    pick (find (λ x. x + x == w) (D.names source)) (λ x. D.value a x + D.value a x)
    (pick (find (λ y. suc (y + y) == w) (R.left.names source)) (λ y. number_of_left R k target (R.left.value a y)) 0)

-- the parts of the complement, and the parts of left that do not stay
abbrev pub apart : Signature → Redex → Instance → Map → Map → Instance
apart C R D k e = record {
  names = λ object. map (λ x. x + x) (D.names object) ++ map (λ y. suc (y + y)) (filter (λ y. not (is_kept R object y)) (R.left.names object));
  value = λ a w. number_after R D k (source_of C a) (target_of C a) a w;
  cell = λ c w. R.host.cell c (stands_for R D e (holder_of C c) w);
}

-- a number is found where it is even
found_even : (names : List ℕ) (x : ℕ) → Contains names x → find (λ y. y + y == x + x) names ≡ Some x
found_even names x has = find_only (λ y. y + y == x + x) names x has (eq-eqb (x + x) (x + x) refl) (λ y there passes.
    let same : y + y ≡ x + x = eqb-true (y + y) (x + x) passes in
    omega arith)

-- and where it is odd
found_odd : (names : List ℕ) (x : ℕ) → Contains names x → find (λ y. suc (y + y) == suc (x + x)) names ≡ Some x
found_odd names x has = find_only (λ y. suc (y + y) == suc (x + x)) names x has (eq-eqb (suc (x + x)) (suc (x + x)) refl) (λ y there passes.
    let same : suc (y + y) ≡ suc (x + x) = eqb-true (suc (y + y)) (suc (x + x)) passes in
    omega arith)

-- an odd number is not found among the even ones
not_even : (names : List ℕ) (y : ℕ) → find (λ x. x + x == suc (y + y)) names ≡ None
not_even names y = find_none (λ x. x + x == suc (y + y)) names (λ x there passes.
    let same : x + x ≡ suc (y + y) = eqb-true (x + x) (suc (y + y)) passes in
    omega arith)

module _ (C : Signature) (category : IsCategory C) (R : Redex) (redex : IsRedex C R) (D : Instance) (k e : Map) (complement : IsComplement C R D k e) where
  -- the number of a part of the complement is there
  even_there : (object x : ℕ) → Has D object x → Has (apart C R D k e) object (x + x)
  even_there object x has =
      Contains-append_left (map (λ x. x + x) (D.names object)) (map (λ y. suc (y + y)) (filter (λ y. not (is_kept R object y)) (R.left.names object))) (x + x)
      (contains_map (λ x. x + x) (D.names object) x has)

  -- that of a part of left that does not stay is there
  odd_there : (object y : ℕ) → Has R.left object y → (IsKept R object y → ⊥) → Has (apart C R D k e) object (suc (y + y))
  odd_there object y has out =
      let outside : List ℕ = filter (λ y. not (is_kept R object y)) (R.left.names object) in
      let fails = false_from_ne_true (is_kept R object y) (λ passes. out (kept_from R object y passes)) in
      Contains-append_right (map (λ x. x + x) (D.names object)) (map (λ y. suc (y + y)) outside) (suc (y + y))
      (contains_map (λ y. suc (y + y)) outside y
      (contains_filter (λ y. not (is_kept R object y)) (R.left.names object) y has (not_from_false (is_kept R object y) fails)))

  -- there are no others
  number_cases : (object w : ℕ) → Has (apart C R D k e) object w
      → ((x : ℕ) × Has D object x × (x + x ≡ w)) ⊎ ((y : ℕ) × Has R.left object y × (IsKept R object y → ⊥) × (suc (y + y) ≡ w))
  number_cases object w has =
      let outside : List ℕ = filter (λ y. not (is_kept R object y)) (R.left.names object) in
      elim (Contains-append_cases (map (λ x. x + x) (D.names object)) (map (λ y. suc (y + y)) outside) w has) [
        | inl here ↦ inl (contained_in_map (λ x. x + x) (D.names object) w here)
        | inr later ↦
            let found : (y : ℕ) × Contains outside y × (suc (y + y) ≡ w) = contained_in_map (λ y. suc (y + y)) outside w later in
            let both = contained_in_filter (λ y. not (is_kept R object y)) (R.left.names object) found.0 found.1 in
            let fails = not-true (is_kept R object found.0) both.1 in
            inr (found.0, both.0, (λ kept. both_ways (is_kept R object found.0) fails (kept_test R object found.0 kept)), found.2)
      ]

  -- a part of left that stays has the number of its part of keep
  number_kept : (object z : ℕ) → object < C.objects → Has R.keep object z → number_of_left R k object (R.l object z) ≡ k object z + k object z
  number_kept object z below has =
      ap (λ (found : Option ℕ). pick found (λ z. k object z + k object z) (suc (R.l object z + R.l object z)))
      (find_only (λ other. R.l object other == R.l object z) (R.keep.names object) z has (eq-eqb (R.l object z) (R.l object z) refl)
      (λ other there passes. redex.injective object other z below there has (eqb-true (R.l object other) (R.l object z) passes)))

  -- one that does not stay has its own
  number_out : (object y : ℕ) → (IsKept R object y → ⊥) → number_of_left R k object y ≡ suc (y + y)
  number_out object y out =
      ap (λ (found : Option ℕ). pick found (λ z. k object z + k object z) (suc (y + y)))
      (find_none (λ z. R.l object z == y) (R.keep.names object) (λ z has passes. out (z, has, eqb-true (R.l object z) y passes)))

  -- the number of a part of left is there
  number_there : (object y : ℕ) → object < C.objects → Has R.left object y → Has (apart C R D k e) object (number_of_left R k object y)
  number_there object y below has =
      elim (kept_or_not R object y) [
        | inl (z, has_z, is) ↦
            subst (λ (y : ℕ). Has (apart C R D k e) object (number_of_left R k object y)) is
            (subst (Has (apart C R D k e) object) (sym (number_kept object z below has_z)) (even_there object (k object z) (complement.from_keep.natural.parts object z below has_z)))
        | inr out ↦ subst (Has (apart C R D k e) object) (sym (number_out object y out)) (odd_there object y has out)
      ]

  -- where an arrow leads from a number, where its ends are known
  value_is : (a : ℕ) (ends : ArrowEnds) (w : ℕ) → slice_get C.arrows a ≡ Some ends
      → (apart C R D k e).value a w ≡ number_after R D k ends.source.0 ends.target.0 a w
  value_is a ends w there =
      ap (λ (source : ℕ). number_after R D k source (target_of C a) a w) (source_is C a ends there)
      ∙ ap (λ (target : ℕ). number_after R D k ends.source.0 target a w) (target_is C a ends there)

  -- from a part of the complement it leads to where it does there
  value_even : (a : ℕ) (ends : ArrowEnds) (x : ℕ) → slice_get C.arrows a ≡ Some ends → Has D ends.source.0 x
      → (apart C R D k e).value a (x + x) ≡ D.value a x + D.value a x
  value_even a ends x there has =
      value_is a ends (x + x) there
      ∙ ap (λ (found : Option ℕ). pick found (λ x. D.value a x + D.value a x)
      (pick (find (λ y. suc (y + y) == x + x) (R.left.names ends.source.0)) (λ y. number_of_left R k ends.target.0 (R.left.value a y)) 0))
      (found_even (D.names ends.source.0) x has)

  -- and so from a part of left
  value_odd : (a : ℕ) (ends : ArrowEnds) (y : ℕ) → slice_get C.arrows a ≡ Some ends → Has R.left ends.source.0 y
      → (apart C R D k e).value a (suc (y + y)) ≡ number_of_left R k ends.target.0 (R.left.value a y)
  value_odd a ends y there has =
      let w : ℕ = suc (y + y) in
      value_is a ends w there
      ∙ ap (λ (found : Option ℕ). pick found (λ x. D.value a x + D.value a x)
      (pick (find (λ y. suc (y + y) == w) (R.left.names ends.source.0)) (λ y. number_of_left R k ends.target.0 (R.left.value a y)) 0))
      (not_even (D.names ends.source.0) y)
      ∙ ap (λ (found : Option ℕ). pick found (λ y. number_of_left R k ends.target.0 (R.left.value a y)) 0) (found_odd (R.left.names ends.source.0) y has)

  -- the numbers of the complement's parts are natural
  even_natural : IsNatural C D (apart C R D k e) even
  even_natural = record {
    parts = λ object x below has. even_there object x has;
    commutes = λ a ends x there has. sym (value_even a ends x there has);
  }

  -- and so are those of left's
  number_natural : IsNatural C R.left (apart C R D k e) (number_of_left R k)
  number_natural = record {
    parts = number_there;
    commutes = λ a ends y there has.
        let source : ℕ = ends.source.0 in
        let target : ℕ = ends.target.0 in
        elim (kept_or_not R source y) [
          | inl (z, has_z, is) ↦
              let below : source < C.objects = category.sources a ends there in
              let known : target < C.objects = category.targets a ends there in
              ap (λ (y : ℕ). number_of_left R k target (R.left.value a y)) (sym is)
              ∙ ap (number_of_left R k target) (sym (redex.l.natural.commutes a ends z there has_z))
              ∙ number_kept target (R.keep.value a z) known (redex.keep.values a ends z there has_z)
              ∙ ap (λ (x : ℕ). x + x) (complement.from_keep.natural.commutes a ends z there has_z)
              ∙ sym (value_even a ends (k source z) there (complement.from_keep.natural.parts source z below has_z))
              ∙ ap ((apart C R D k e).value a) (sym (number_kept source z below has_z))
              ∙ ap (λ (y : ℕ). (apart C R D k e).value a (number_of_left R k source y)) is
          | inr out ↦ sym (ap ((apart C R D k e).value a) (number_out source y out) ∙ value_odd a ends y there has)
        ];
  }

  -- the number of a part of the complement stands for its image
  stands_even : (object x : ℕ) → Has D object x → stands_for R D e object (x + x) ≡ e object x
  stands_even object x has =
      ap (λ (found : Option ℕ). pick found (e object) (pick (find (λ y. suc (y + y) == x + x) (R.left.names object)) (R.m object) 0)) (found_even (D.names object) x has)

  -- that of a part of left stands for its image
  stands_number : (object y : ℕ) → object < C.objects → Has R.left object y → stands_for R D e object (number_of_left R k object y) ≡ R.m object y
  stands_number object y below has =
      elim (kept_or_not R object y) [
        | inl (z, has_z, is) ↦
            ap (λ (y : ℕ). stands_for R D e object (number_of_left R k object y)) (sym is)
            ∙ ap (stands_for R D e object) (number_kept object z below has_z)
            ∙ stands_even object (k object z) (complement.from_keep.natural.parts object z below has_z)
            ∙ complement.pushout.cocone.agrees object z below has_z
            ∙ ap (R.m object) is
        | inr out ↦
            let w : ℕ = suc (y + y) in
            ap (stands_for R D e object) (number_out object y out)
            ∙ ap (λ (found : Option ℕ). pick found (e object) (pick (find (λ y. suc (y + y) == w) (R.left.names object)) (R.m object) 0)) (not_even (D.names object) y)
            ∙ ap (λ (found : Option ℕ). pick found (R.m object) 0) (found_odd (R.left.names object) y has)
      ]

  -- what a number stands for is a part of the host
  stands_there : (object w : ℕ) → object < C.objects → Has (apart C R D k e) object w → Has R.host object (stands_for R D e object w)
  stands_there object w below has =
      elim (number_cases object w has) [
        | inl (x, has_x, is) ↦
            subst (λ (w : ℕ). Has R.host object (stands_for R D e object w)) is
            (subst (Has R.host object) (sym (stands_even object x has_x)) (complement.pushout.cocone.from_left.natural.parts object x below has_x))
        | inr (y, has_y, out, is) ↦
            subst (λ (w : ℕ). Has R.host object (stands_for R D e object w)) (number_out object y out ∙ is)
            (subst (Has R.host object) (sym (stands_number object y below has_y)) (redex.m.parts object y below has_y))
      ]

  -- the cell of a number is that of what it stands for, where the attribute's object is known
  cell_is : (c : ℕ) (ends : AttrEnds) (w : ℕ) → slice_get C.attributes c ≡ Some ends
      → (apart C R D k e).cell c w ≡ R.host.cell c (stands_for R D e ends.object.0 w)
  cell_is c ends w there = ap (λ (object : ℕ). R.host.cell c (stands_for R D e object w)) (holder_is C c ends there)

  -- the numbers are an instance
  apart_instance : IsInstance C (apart C R D k e)
  apart_instance = record {
    values = λ a ends w there has.
        let target : ℕ = ends.target.0 in
        elim (number_cases ends.source.0 w has) [
          | inl (x, has_x, is) ↦
              subst (Has (apart C R D k e) target) (sym (value_even a ends x there has_x) ∙ ap ((apart C R D k e).value a) is)
              (even_there target (D.value a x) (complement.instance.values a ends x there has_x))
          | inr (y, has_y, out, is) ↦
              subst (Has (apart C R D k e) target) (sym (value_odd a ends y there has_y) ∙ ap ((apart C R D k e).value a) is)
              (number_there target (R.left.value a y) (category.targets a ends there) (redex.left.values a ends y there has_y))
        ];
    atoms = λ c ends w atom there has is.
        redex.host.atoms c ends (stands_for R D e ends.object.0 w) atom there (stands_there ends.object.0 w (category.holders c ends there) has)
        (sym (cell_is c ends w there) ∙ is);
    equations = λ number equation w there has.
        let object : ℕ = equation.object.0 in
        elim (number_cases object w has) [
          | inl (x, has_x, is) ↦ equation_at_image C category D (apart C R D k e) even complement.instance even_natural number equation x w there has_x is
          | inr (y, has_y, out, is) ↦
              equation_at_image C category R.left (apart C R D k e) (number_of_left R k) redex.left number_natural number equation y w there has_y
              (number_out object y out ∙ is)
        ];
  }

  -- they are a cocone
  apart_cocone : IsCocone C (left_frame R D k) (apart C R D k e) even (number_of_left R k)
  apart_cocone = record {
    instance = apart_instance;
    from_left = record {
      natural = even_natural;
      keeps = λ c ends x atom there has is.
          cell_is c ends (x + x) there ∙ ap (R.host.cell c) (stands_even ends.object.0 x has) ∙ complement.pushout.cocone.from_left.keeps c ends x atom there has is;
    };
    from_right = record {
      natural = number_natural;
      keeps = λ c ends y atom there has is.
          cell_is c ends (number_of_left R k ends.object.0 y) there
          ∙ ap (R.host.cell c) (stands_number ends.object.0 y (category.holders c ends there) has)
          ∙ complement.pushout.cocone.from_right.keeps c ends y atom there has is;
    };
    agrees = λ object z below has. sym (number_kept object z below has);
  }

  -- the host leads to them
  to_apart : (u : Map) × IsMediating C (left_frame R D k) R.host e R.m (apart C R D k e) even (number_of_left R k) u
  to_apart = complement.pushout.mediating (apart C R D k e) even (number_of_left R k) apart_cocone

  -- no two parts of the complement have one image
  pub complement_injective : IsInjective C D e
  complement_injective object x y below has_x has_y same =
      let twice : x + x ≡ y + y = sym (to_apart.1.from_left object x below has_x) ∙ ap (to_apart.0 object) same ∙ to_apart.1.from_left object y below has_y in
      omega arith

  -- a part of left with the image of a part of the complement comes from the part of keep that this comes from
  pub shared : (object x y : ℕ) → object < C.objects → Has D object x → Has R.left object y → e object x ≡ R.m object y
      → (z : ℕ) × Has R.keep object z × (R.l object z ≡ y) × (k object z ≡ x)
  shared object x y below has_x has_y same =
      let one : x + x ≡ number_of_left R k object y =
      sym (to_apart.1.from_left object x below has_x) ∙ ap (to_apart.0 object) same ∙ to_apart.1.from_right object y below has_y in
      elim (kept_or_not R object y) [
        | inl (z, has_z, is) ↦
            let twice : k object z + k object z ≡ x + x =
            sym (number_kept object z below has_z) ∙ ap (number_of_left R k object) is ∙ sym one in
            (z, has_z, is, omega arith)
        | inr out ↦
            let odd : x + x ≡ suc (y + y) = one ∙ number_out object y out in
            absurd (omega arith)
      ]

  -- two parts of left with one image both stay
  identified : (object x y : ℕ) → object < C.objects → Has R.left object x → Has R.left object y → R.m object x ≡ R.m object y
      → (x ≡ y) ⊎ (IsKept R object x × IsKept R object y)
  identified object x y below has_x has_y same =
      let one : number_of_left R k object x ≡ number_of_left R k object y =
      sym (to_apart.1.from_right object x below has_x) ∙ ap (to_apart.0 object) same ∙ to_apart.1.from_right object y below has_y in
      elim (kept_or_not R object x) [
        | inl (z, has_z, is) ↦
            elim (kept_or_not R object y) [
              | inl kept ↦ inr ((z, has_z, is), kept)
              | inr out ↦
                  let odd : k object z + k object z ≡ suc (y + y) =
                  sym (number_kept object z below has_z) ∙ ap (number_of_left R k object) is ∙ one ∙ number_out object y out in
                  absurd (omega arith)
            ]
        | inr out ↦
            elim (kept_or_not R object y) [
              | inl (z, has_z, is) ↦
                  let odd : k object z + k object z ≡ suc (x + x) =
                  sym (number_kept object z below has_z) ∙ ap (number_of_left R k object) is ∙ sym one ∙ number_out object x out in
                  absurd (omega arith)
              | inr other ↦
                  let odd : suc (x + x) ≡ suc (y + y) = sym (number_out object x out) ∙ one ∙ number_out object y other in
                  inl (omega arith)
            ]
      ]

  -- where there is a complement, the gluing condition holds
  pub can_be_glued : CanBeGlued C R
  can_be_glued = record {
    identification = identified;
    dangling = λ a ends w there has removed.
        let source : ℕ = ends.source.0 in
        let target : ℕ = ends.target.0 in
        elim (covers C category (left_frame R D k) complement.instance redex.left R.host e R.m complement.pushout source w (category.sources a ends there) has) [
          | inl (x, has_x, is, done) ↦
              let leads : e target (D.value a x) ≡ R.m target removed.0 =
              complement.pushout.cocone.from_left.natural.commutes a ends x there has_x ∙ ap (R.host.value a) is ∙ sym removed.2 in
              let from = shared target (D.value a x) removed.0 (category.targets a ends there) (complement.instance.values a ends x there has_x) removed.1 leads in
              absurd (removed.3 (from.0, from.1, from.2))
          | inr (y, has_y, is, done) ↦ (y, has_y, is)
        ];
  }
