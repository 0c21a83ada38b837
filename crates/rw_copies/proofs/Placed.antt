-- Parts that are made and placed over an object are a copying there.
use Rattle.std.proofs.Common.{◌≡◌, ◌∙◌, ◌⊎◌, ◌<◌, ℕ, zero, suc, inl, inr, List, [], ◌∷◌, Contains, Some, length, get_or, slice_get, slice_index, refl, sym, ap, subst, arith}
use Rattle.std.proofs.lemmas.Bool.{cases_eq, eq-eqb, ne_eqb}
use Rattle.std.proofs.lemmas.List.{get_or_default}
use Rattle.std.proofs.lemmas.Option.{slice_get-get_or, slice_get_within, get_or_from_slice_get}
use Rattle.rw_schema.specs.declared.ids.ArrowId.{ArrowId}
use Rattle.rw_schema.specs.declared.signature.ArrowEnds.{ArrowEnds}
use Rattle.rw_schema.specs.Signature.{Signature, IsCategory, IsPath}
use Rattle.rw_spec.specs.Distinct.{AreDistinct}
use Rattle.rw_spec.specs.Instance.{Instance, Has, follow}
use Rattle.rw_spec.specs.Natural.{Map}
use Rattle.rw_spec.proofs.Look.{look_at}
use Rattle.rw_spec.proofs.Signatures.{target_is}
use Rattle.rw_spec.specs.Redex.{Redex}
use Rattle.rw_copies.specs.Copying.{IsRank, IsInjectiveMatch, IsOutside, IsFamily, follow_from}
use Rattle.rw_copies.specs.CopyingAt.{IsCopyingAt, AreSameAt}
use Rattle.rw_copies.specs.Made.{Made, Kept, Copied, made_host, made_value, made_cell, kept_place, AreMade, made_at, ArePlaced}
use Rattle.rw_copies.proofs.Final.{rank_falls}
use Rattle.rw_copies.proofs.CopyingAt.{follow_same}

-- a kept part that stands in the list stands at its place
at_kept_place : (z : ℕ) (all : List Made) (p : ℕ) → slice_get all p ≡ Some (Kept z) → slice_get all (kept_place z all) ≡ Some (Kept z)
at_kept_place z [] p there = let never : ⊥ = cc in absurd never
at_kept_place z (Kept y ∷ more) zero there = let same : y ≡ z = cc in rw (eq-eqb y z same) there
at_kept_place z (Kept y ∷ more) (suc p) there =
    elim (cases_eq y z) [
      | inl same ↦ rw (eq-eqb y z same, same) refl
      | inr other ↦ rw (ne_eqb y z other) (at_kept_place z more p there)
    ]
at_kept_place z (Copied g row ∷ more) zero there = let never : ⊥ = cc in absurd never
at_kept_place z (Copied g row ∷ more) (suc p) there = at_kept_place z more p there

-- a kept part, or a copy, stands under the name
pub record IsKeptAt (C : Signature) (R : Redex) (object : ℕ) (names : List ℕ) (all : List Made) (v z : ℕ) : Type 0 where
  pub has : Has R.keep object z
  pub is : made_at names all v ≡ Kept z
  pub place : ℕ
  pub there : slice_get all place ≡ Some (Kept z)
  pub name : slice_index names place ≡ v

pub record IsCopiedAt (C : Signature) (R : Redex) (D : Instance) (e : Map) (object : ℕ) (names : List ℕ) (all : List Made) (v g : ℕ) (row : List ℕ) : Type 0 where
  pub has : Has R.host object g
  pub outside : IsOutside R object g
  pub family : IsFamily C R D e object g (slice_index row)
  pub is : made_at names all v ≡ Copied g row
  pub place : ℕ
  pub there : slice_get all place ≡ Some (Copied g row)
  pub name : slice_index names place ≡ v

-- what stands beside a name stands in the list
placed_there : (names : List ℕ) (all : List Made) → AreDistinct names → length all ≡ length names → (v : ℕ) → Contains names v
    → (p : ℕ) × (slice_get all p ≡ Some (made_at names all v)) × (slice_index names p ≡ v)
placed_there names all distinct beside v (p, within, there) =
    let name : slice_index names p ≡ v = get_or_default names p 0 v within ∙ there in
    let entry : made_at names all v ≡ get_or all p (Kept 0) = ap (made_at names all) (sym name) ∙ look_at (Kept 0) names all p distinct within in
    (p, slice_get-get_or all p (Kept 0) (omega arith) ∙ ap (λ (m : Made). Some m) (sym entry), name)

-- what stands in the list stands beside its name
placed_at_name : (names : List ℕ) (all : List Made) → AreDistinct names → length all ≡ length names → (p : ℕ) (made : Made) → slice_get all p ≡ Some made
    → Contains names (slice_index names p) × (made_at names all (slice_index names p) ≡ made)
placed_at_name names all distinct beside p made there =
    let within = slice_get_within all p made there in
    let low : p < length names = omega arith in
    ((p, low, get_or_default names p (slice_index names p) 0 low), look_at (Kept 0) names all p distinct low ∙ get_or_from_slice_get all p made (Kept 0) there)

module _ (C : Signature) (category : IsCategory C) (rank : ℕ → ℕ) (ranked : IsRank C rank) (P : ℕ → Type 0)
    (onward : (a : ℕ) (ends : ArrowEnds) → slice_get C.arrows a ≡ Some ends → P ends.source.0 → P ends.target.0)
    (R : Redex) (match : IsInjectiveMatch C R) (D : Instance) (k e : Map) (done : (o : ℕ) → o < C.objects → P o → IsCopyingAt C R D k e o)
    (object : ℕ) (below : object < C.objects) (targets : (a : ℕ) (ends : ArrowEnds) → slice_get C.arrows a ≡ Some ends → ends.source.0 ≡ object → P ends.target.0)
    (names : List ℕ) (all : List Made) (made : AreMade C R D e object all)
    (E : Instance) (j i : Map) (placed : ArePlaced C R k object names all E j i) (same : AreSameAt C P D k e E j i) where
  abbrev KeptAt : ℕ → ℕ → Type 0
  KeptAt v z = IsKeptAt C R object names all v z

  abbrev CopiedAt : ℕ → ℕ → List ℕ → Type 0
  CopiedAt v g row = IsCopiedAt C R D e object names all v g row

  pub in_names : (v : ℕ) → Has E object v → Contains names v
  in_names v part = subst (λ (ns : List ℕ). Contains ns v) placed.parts part

  pub of_names : (v : ℕ) → Contains names v → Has E object v
  of_names v part = subst (λ (ns : List ℕ). Contains ns v) (sym placed.parts) part

  in_other : (o v : ℕ) → P o → Has D o v → Has E o v
  in_other o v here part = subst (λ (ns : List ℕ). Contains ns v) (sym (same.names o here)) part

  from_other : (o v : ℕ) → P o → Has E o v → Has D o v
  from_other o v here part = subst (λ (ns : List ℕ). Contains ns v) (same.names o here) part

  -- a part is a kept one or a copy
  pub kinds : (v : ℕ) → Has E object v → ((z : ℕ) × KeptAt v z) ⊎ ((g : ℕ) × (row : List ℕ) × CopiedAt v g row)
  kinds v part =
      let found = placed_there names all placed.distinct placed.beside v (in_names v part) in
      split (made_at names all v) refl found.0 found.1 found.2
    where
      split : (entry : Made) → made_at names all v ≡ entry → (p : ℕ) → slice_get all p ≡ Some (made_at names all v) → slice_index names p ≡ v
          → ((z : ℕ) × KeptAt v z) ⊎ ((g : ℕ) × (row : List ℕ) × CopiedAt v g row)
      split (Kept z) is p there name =
          let stands : slice_get all p ≡ Some (Kept z) = there ∙ ap (λ (m : Made). Some m) is in
          inl (z, record { has = made.kept p z stands; is = is; place = p; there = stands; name = name })
      split (Copied g row) is p there name =
          let stands : slice_get all p ≡ Some (Copied g row) = there ∙ ap (λ (m : Made). Some m) is in
          let facts = made.copied p g row stands in
          inr (g, row, record { has = facts.0; outside = facts.1; family = facts.2; is = is; place = p; there = stands; name = name })

  pub host_kept : (v z : ℕ) → KeptAt v z → i object v ≡ R.m object (R.l object z)
  host_kept v z at = placed.to_host v ∙ ap (made_host R object) at.is

  host_copied : (v g : ℕ) (row : List ℕ) → CopiedAt v g row → i object v ≡ g
  host_copied v g row at = placed.to_host v ∙ ap (made_host R object) at.is

  value_kept : (a : ℕ) (ends : ArrowEnds) (v z : ℕ) → slice_get C.arrows a ≡ Some ends → ends.source.0 ≡ object → KeptAt v z → E.value a v ≡ k ends.target.0 (R.keep.value a z)
  value_kept a ends v z there leaves at =
      placed.values a ends v there leaves ∙ ap (made_value C R k a) at.is ∙ ap (λ (o : ℕ). k o (R.keep.value a z)) (target_is C a ends there)

  pub value_copied : (a : ℕ) (ends : ArrowEnds) (v g : ℕ) (row : List ℕ) → slice_get C.arrows a ≡ Some ends → ends.source.0 ≡ object → CopiedAt v g row → E.value a v ≡ slice_index row a
  value_copied a ends v g row there leaves at = placed.values a ends v there leaves ∙ ap (made_value C R k a) at.is

  left_has : (z : ℕ) → Has R.keep object z → Has R.left object (R.l object z)
  left_has z has = match.l.natural.parts object z below has

  -- a kept part is not outside
  pub kept_inside : (v z : ℕ) → KeptAt v z → IsOutside R object (i object v) → ⊥
  kept_inside v z at outside = outside (R.l object z) (left_has z at.has) (sym (host_kept v z at))

  source_has : (a : ℕ) (ends : ArrowEnds) (z : ℕ) → slice_get C.arrows a ≡ Some ends → ends.source.0 ≡ object → Has R.keep object z → Has R.keep ends.source.0 z
  source_has a ends z there leaves has = subst (λ (o : ℕ). Has R.keep o z) (sym leaves) has

  -- what stands at a kept part's name
  pub keep_stands : (z : ℕ) → Has R.keep object z → KeptAt (j object z) z
  keep_stands z has =
      let found = made.all_kept z has in
      let stands = at_kept_place z all found.0 found.1 in
      let at = placed_at_name names all placed.distinct placed.beside (kept_place z all) (Kept z) stands in
      record { has = has; is = ap (made_at names all) (placed.from_keep z) ∙ at.1; place = kept_place z all; there = stands; name = sym (placed.from_keep z) }

  pub keep_has : (z : ℕ) → Has R.keep object z → Has E object (j object z)
  keep_has z has =
      let at = keep_stands z has in
      of_names (j object z) (subst (λ (v : ℕ). Contains names v) at.name (placed_at_name names all placed.distinct placed.beside at.place (Kept z) at.there).0)

  -- paths from kept parts over other objects lead to kept parts
  follow_kept : (from : ℕ) (path : List ArrowId) (to y : ℕ) → IsPath C from path to → P from → Has R.keep from y → follow D path (k from y) ≡ k to (follow R.keep path y)
  follow_kept from [] to y leads here has = ap (λ (o : ℕ). k o y) leads
  follow_kept from (arrow ∷ path) to y (ends, there, leaves, leads) here has =
      let source : Has R.keep ends.source.0 y = subst (λ (o : ℕ). Has R.keep o y) (sym leaves) has in
      let known : from < C.objects = subst (λ (o : ℕ). o < C.objects) leaves (category.sources arrow.0 ends there) in
      let next : P ends.target.0 = onward arrow.0 ends there (subst P (sym leaves) here) in
      ap (follow D path) (sym ((done from known here).keep_values arrow.0 ends y there leaves has))
      ∙ follow_kept ends.target.0 path to (R.keep.value arrow.0 y) leads next (match.keep.values arrow.0 ends y there source)

  follow_other : (from : ℕ) (path : List ArrowId) (to v : ℕ) → IsPath C from path to → P from → follow E path v ≡ follow D path v
  follow_other from path to v leads here = follow_same C category P onward R D k e E j i same from path to v leads here

  -- a path from the object leads from a kept part to a kept part, and from a copy to where it leads from the family
  path_kept : (a : ArrowId) (path : List ArrowId) (to v z : ℕ) → IsPath C object (a ∷ path) to → KeptAt v z → follow E (a ∷ path) v ≡ k to (follow R.keep (a ∷ path) z)
  path_kept a path to v z (ends, there, leaves, leads) at =
      let next = targets a.0 ends there leaves in
      ap (follow E path) (value_kept a.0 ends v z there leaves at) ∙ follow_other ends.target.0 path to (k ends.target.0 (R.keep.value a.0 z)) leads next
      ∙ follow_kept ends.target.0 path to (R.keep.value a.0 z) leads next (match.keep.values a.0 ends z there (source_has a.0 ends z there leaves at.has))

  path_copied : (a : ArrowId) (path : List ArrowId) (to v g : ℕ) (row : List ℕ) → IsPath C object (a ∷ path) to → CopiedAt v g row → follow E (a ∷ path) v ≡ follow_from D (slice_index row) (a ∷ path)
  path_copied a path to v g row (ends, there, leaves, leads) at =
      ap (follow E path) (value_copied a.0 ends v g row there leaves at) ∙ follow_other ends.target.0 path to (slice_index row a.0) leads (targets a.0 ends there leaves)

  -- an arrow of a path does not lead back
  path_falls : (a : ArrowId) (path : List ArrowId) (to : ℕ) → IsPath C object (a ∷ path) to → rank to < rank object
  path_falls a path to (ends, there, leaves, leads) =
      let rest = rank_falls C rank ranked ends.target.0 path to leads in
      let first : rank ends.target.0 < rank object = subst (λ (o : ℕ). rank ends.target.0 < rank o) leaves (ranked a.0 ends there) in
      omega arith

  sides_agree : (left right : List ArrowId) (to v : ℕ) → IsPath C object left to → IsPath C object right to → Has E object v
      → ((z : ℕ) → Has R.keep object z → follow R.keep left z ≡ follow R.keep right z)
      → ((family : ℕ → ℕ) (g : ℕ) → IsFamily C R D e object g family → follow_from D family left ≡ follow_from D family right) → follow E left v ≡ follow E right v
  sides_agree [] [] to v first second part keep_same family_same = refl
  sides_agree [] (b ∷ right) to v first second part keep_same family_same =
      let falls = path_falls b right to second in let one : rank object ≡ rank to = ap rank first in absurd (omega arith)
  sides_agree (a ∷ left) [] to v first second part keep_same family_same =
      let falls = path_falls a left to first in let one : rank object ≡ rank to = ap rank second in absurd (omega arith)
  sides_agree (a ∷ left) (b ∷ right) to v first second part keep_same family_same =
      elim (kinds v part) [
        | inl (z, at) ↦ path_kept a left to v z first at ∙ ap (k to) (keep_same z at.has) ∙ sym (path_kept b right to v z second at)
        | inr (g, row, at) ↦ path_copied a left to v g row first at ∙ family_same (slice_index row) g at.family ∙ sym (path_copied b right to v g row second at)
      ]

  -- a family says the same in both
  family_path : (path : List ArrowId) (to : ℕ) (family : ℕ → ℕ) → IsPath C object path to → follow_from E family path ≡ follow_from D family path
  family_path [] to family leads = refl
  family_path (a ∷ path) to family (ends, there, leaves, leads) = follow_other ends.target.0 path to (family a.0) leads (targets a.0 ends there leaves)

  family_back : (g : ℕ) (family : ℕ → ℕ) → IsFamily C R E i object g family → IsFamily C R D e object g family
  family_back g family is = record {
    parts = λ a ends there leaves. from_other ends.target.0 (family a) (targets a ends there leaves) (is.parts a ends there leaves);
    over = λ a ends there leaves. sym (same.to_host ends.target.0 (family a) (targets a ends there leaves)) ∙ is.over a ends there leaves;
    equations = λ n equation there starts.
        let paths = category.paths n equation there in
        sym (family_path equation.left paths.0 family (subst (λ (o : ℕ). IsPath C o equation.left paths.0) starts paths.1)) ∙ is.equations n equation there starts
        ∙ family_path equation.right paths.0 family (subst (λ (o : ℕ). IsPath C o equation.right paths.0) starts paths.2);
  }

  -- what is placed is a copying at the object
  pub placed_at : IsCopyingAt C R E j i object
  placed_at = record {
    values = λ a ends v there leaves part.
        let next = targets a ends there leaves in
        elim (kinds v part) [
          | inl (z, at) ↦
              subst (λ (y : ℕ). Has E ends.target.0 y) (sym (value_kept a ends v z there leaves at))
              (in_other ends.target.0 (k ends.target.0 (R.keep.value a z)) next ((done ends.target.0 (category.targets a ends there) next).keep_parts (R.keep.value a z)
              (match.keep.values a ends z there (source_has a ends z there leaves at.has))))
          | inr (g, row, at) ↦
              subst (λ (y : ℕ). Has E ends.target.0 y) (sym (value_copied a ends v g row there leaves at))
              (in_other ends.target.0 (slice_index row a) next (at.family.parts a ends there leaves))
        ];
    over_values = λ a ends v there leaves part.
        let next = targets a ends there leaves in
        elim (kinds v part) [
          | inl (z, at) ↦
              let source = source_has a ends z there leaves at.has in
              let value = match.keep.values a ends z there source in
              let at_source : R.m ends.source.0 (R.l ends.source.0 z) ≡ i object v = ap (λ (o : ℕ). R.m o (R.l o z)) leaves ∙ sym (host_kept v z at) in
              ap (i ends.target.0) (value_kept a ends v z there leaves at) ∙ same.to_host ends.target.0 (k ends.target.0 (R.keep.value a z)) next
              ∙ (done ends.target.0 (category.targets a ends there) next).square (R.keep.value a z) value
              ∙ ap (R.m ends.target.0) (match.l.natural.commutes a ends z there source)
              ∙ match.m.commutes a ends (R.l ends.source.0 z) there (match.l.natural.parts ends.source.0 z (category.sources a ends there) source)
              ∙ ap (R.host.value a) at_source
          | inr (g, row, at) ↦
              ap (i ends.target.0) (value_copied a ends v g row there leaves at) ∙ same.to_host ends.target.0 (slice_index row a) next
              ∙ at.family.over a ends there leaves ∙ ap (R.host.value a) (sym (host_copied v g row at))
        ];
    equations = λ n equation v there starts part.
        let paths = category.paths n equation there in
        sides_agree equation.left equation.right paths.0 v (subst (λ (o : ℕ). IsPath C o equation.left paths.0) starts paths.1) (subst (λ (o : ℕ). IsPath C o equation.right paths.0) starts paths.2) part
        (λ z has. match.keep.equations n equation z there (subst (λ (o : ℕ). Has R.keep o z) (sym starts) has))
        (λ family g is. is.equations n equation there starts);
    over = λ v part.
        elim (kinds v part) [
          | inl (z, at) ↦ subst (λ (y : ℕ). Has R.host object y) (sym (host_kept v z at)) (match.m.parts object (R.l object z) below (left_has z at.has))
          | inr (g, row, at) ↦ subst (λ (y : ℕ). Has R.host object y) (sym (host_copied v g row at)) at.has
        ];
    keep_parts = keep_has;
    keep_values = λ a ends z there leaves has. same.from_keep ends.target.0 (R.keep.value a z) (targets a ends there leaves) ∙ sym (value_kept a ends (j object z) z there leaves (keep_stands z has));
    square = λ z has. host_kept (j object z) z (keep_stands z has);
    kept = λ x v left part over.
        elim (kinds v part) [
          | inl (z, at) ↦
              let stands = keep_stands z at.has in
              let one : stands.place ≡ at.place = made.kept_once stands.place at.place z stands.there at.there in
              (z, at.has, sym stands.name ∙ ap (slice_index names) one ∙ at.name)
          | inr (g, row, at) ↦ absurd (at.outside x left (sym over ∙ host_copied v g row at))
        ];
    kept_once = λ y z y_has z_has one.
        let first : made_at names all (j object y) ≡ Kept y = (keep_stands y y_has).is in
        let second : made_at names all (j object z) ≡ Kept z = (keep_stands z z_has).is in
        let made_same : Kept y ≡ Kept z = sym first ∙ ap (made_at names all) one ∙ second in
        cc;
    each = λ g family has outside is.
        let found = made.all_copied g family has outside (family_back g family is) in
        let at_name = placed_at_name names all placed.distinct placed.beside found.0 (Copied g found.1) found.2 in
        let v : ℕ = slice_index names found.0 in
        let facts = made.copied found.0 g found.1 found.2 in
        let at : CopiedAt v g found.1 = record { has = facts.0; outside = facts.1; family = facts.2; is = at_name.1; place = found.0; there = found.2; name = refl } in
        (v, of_names v at_name.0, host_copied v g found.1 at, λ a ends there leaves. value_copied a ends v g found.1 there leaves at ∙ found.3 a ends there leaves);
    once = λ v w v_part w_part outside over values.
        elim (kinds v v_part) [
          | inl (z, at) ↦ absurd (kept_inside v z at outside)
          | inr (g, row, at) ↦
              elim (kinds w w_part) [
                | inl (z, at_w) ↦ absurd (kept_inside w z at_w (λ x left is. outside x left (is ∙ sym over)))
                | inr (h, other, at_w) ↦
                    let same_host : h ≡ g = sym (host_copied w h other at_w) ∙ sym over ∙ host_copied v g row at in
                    let there_w : slice_get all at_w.place ≡ Some (Copied g other) = subst (λ (n : ℕ). slice_get all at_w.place ≡ Some (Copied n other)) same_host at_w.there in
                    let one : at.place ≡ at_w.place = made.copied_once at.place at_w.place g row other at.there there_w
                    (λ a ends there leaves. sym (value_copied a ends v g row there leaves at) ∙ values a ends there leaves ∙ value_copied a ends w h other there leaves at_w) in
                    sym at.name ∙ ap (slice_index names) one ∙ at_w.name
              ]
        ];
    kept_cells = λ c ends z there holds has. placed.cells c ends (j object z) there holds ∙ ap (made_cell R c) (keep_stands z has).is;
    host_cells = λ c ends v there holds part outside.
        elim (kinds v part) [
          | inl (z, at) ↦ absurd (kept_inside v z at outside)
          | inr (g, row, at) ↦ placed.cells c ends v there holds ∙ ap (made_cell R c) at.is ∙ ap (R.host.cell c) (sym (host_copied v g row at))
        ];
  }
