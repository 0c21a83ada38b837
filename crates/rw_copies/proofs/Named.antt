-- The names of a final complement are the only ones.
use Rattle.std.proofs.Common.{◌≡◌, ◌≢◌, ◌∙◌, ℕ, zero, suc, ◌+◌, ◌-◌, ◌<◌, ◌≤◌, ◌⊎◌, inl, inr, Option, Some, None, length, slice_get, refl, sym, ap, subst, arith}
use Rattle.std.proofs.lemmas.Bool.{cases_eq, cases_lt, cases_order}
use Rattle.std.proofs.lemmas.Option.{slice_get_within}
use Rattle.rw_schema.specs.declared.signature.ArrowEnds.{ArrowEnds}
use Rattle.rw_schema.specs.Signature.{Signature, IsCategory}
use Rattle.rw_spec.specs.Homomorphism.{after}
use Rattle.rw_spec.specs.Instance.{Instance, Has}
use Rattle.rw_spec.specs.Natural.{Map, SameOn}
use Rattle.rw_copies.specs.FinalComplement.{AreInverse, IsIsomorphism, IsFinalComplement}
use Rattle.rw_copies.specs.Copying.{IsRank, IsInjectiveMatch, IsOutside, IsCopying}
use Rattle.rw_copies.specs.CopyNames.{IsFirstDifference, AreCopyNames, IsCopyContext, AreEqualContexts}
use Rattle.rw_copies.proofs.Final.{sides, final_from_copying}
use Rattle.rw_complement.specs.Complement.{identity}
use Rattle.rw_copies.proofs.Once.{final_once, same_where_names_stay}
use Rattle.rw_spec.specs.Redex.{Redex}

-- u keeps the order of the parts over one host part
abbrev pub KeepsOrder : Signature → Instance → Map → Map → Type 0
KeepsOrder C D e u = (object v w : ℕ) → object < C.objects → Has D object v → Has D object w → e object v ≡ e object w → v < w → u object v < u object w

-- what is known of names between which a map leads that keeps the order over each host part
module _ (C : Signature) (R : Redex) (next : ℕ → ℕ) (hosts : (object g : ℕ) → object < C.objects → Has R.host object g → g < next object)
    (D : Instance) (k e : Map) (last : ℕ → ℕ) (names : AreCopyNames C R next D k e last)
    (E : Instance) (j i : Map) (end : ℕ → ℕ) (others : AreCopyNames C R next E j i end)
    (u v : Map) (inverse : AreInverse C D E u v) (over : SameOn C D (after i u) e) (back_over : SameOn C E (after e v) i)
    (to_host : (object x : ℕ) → object < C.objects → Has D object x → Has R.host object (e object x))
    (keeps : KeepsOrder C D e u) where
  -- u sends no two parts to one
  injective : (object x y : ℕ) → object < C.objects → Has D object x → Has D object y → u object x ≡ u object y → x ≡ y
  injective object x y below x_part y_part same = sym (inverse.returns object x below x_part) ∙ ap (v object) same ∙ inverse.returns object y below y_part

  -- a host part's own name goes to itself
  old_stays : (object x : ℕ) → object < C.objects → Has D object x → x < next object → u object x ≡ x
  old_stays object x below part old =
      let image = inverse.there object x below part in
      let over_x : i object (u object x) ≡ x = over object x below part ∙ (names object below).old x part old in
      let there : Has E object x = subst (λ (y : ℕ). Has E object y) over_x ((others object below).first (u object x) image) in
      let itself : i object x ≡ x = (others object below).old x there old in
      let origin : ℕ = v object x in
      let has = inverse.back object x below there in
      let origin_over : e object origin ≡ x = back_over object x below there ∙ itself in
      let goes : u object origin ≡ x = inverse.goes object x below there in
      elim (cases_order origin x) [
        | inr (inl less) ↦ let same = (names object below).old origin has (omega arith) in absurd (omega arith)
        | inl same ↦ ap (u object) (sym same) ∙ goes
        | inr (inr more) ↦
            let less : u object x < u object origin = keeps object x origin below part has ((names object below).old x part old ∙ sym origin_over) more in
            let same = (others object below).old (u object x) image (omega arith) in
            over_x' same over_x
      ]
    where
      over_x' : {a b c : ℕ} → a ≡ b → a ≡ c → b ≡ c
      over_x' p q = sym p ∙ q

  -- a new name goes to a new name
  new_stays_new : (object x : ℕ) → object < C.objects → Has D object x → next object ≤ x → next object ≤ u object x
  new_stays_new object x below part new =
      elim (cases_lt (u object x) (next object)) [
        | inl less ↦
            let own : e object x ≡ u object x = sym (over object x below part) ∙ (others object below).old (u object x) (inverse.there object x below part) less in
            let there : Has D object (u object x) = subst (λ (y : ℕ). Has D object y) own ((names object below).first x part) in
            let same : u object x ≡ x = injective object (u object x) x below there part (old_stays object (u object x) below there less) in
            absurd (omega arith)
        | inr more ↦ omega arith
      ]

  -- u keeps the order of new names
  new_ascend : (object x y : ℕ) → object < C.objects → Has D object x → Has D object y → next object ≤ x → x < y → u object x < u object y
  new_ascend object x y below x_part y_part new less =
      let hosts_ascend = (names object below).ascend x y x_part y_part new less in
      let x_over = over object x below x_part in
      let y_over = over object y below y_part in
      let y_image = inverse.there object y below y_part in
      let x_image = inverse.there object x below x_part in
      let y_new = new_stays_new object y below y_part (omega arith) in
      elim (cases_eq (e object x) (e object y)) [
        | inl same ↦ keeps object x y below x_part y_part same less
        | inr other ↦ elim (cases_order (u object x) (u object y)) [
          | inr (inl yes') ↦ yes'
          | inl same ↦ let one = injective object x y below x_part y_part same in absurd (omega arith)
          | inr (inr more) ↦ let down = (others object below).ascend (u object y) (u object x) y_image x_image y_new more in absurd (other (omega arith))
        ]
      ]

  -- a new name goes to no lesser one
  new_above : (n object : ℕ) → object < C.objects → next object + n < last object → next object + n ≤ u object (next object + n)
  new_above zero object below within = let new = new_stays_new object (next object + zero) below ((names object below).all (next object + zero) (omega arith) within) (omega arith) in omega arith
  new_above (suc n) object below within =
      let less : next object + n < next object + suc n = omega arith in
      let step = new_ascend object (next object + n) (next object + suc n) below ((names object below).all (next object + n) (omega arith) (omega arith))
      ((names object below).all (next object + suc n) (omega arith) within) (omega arith) less in
      let before = new_above n object below (omega arith) in
      omega arith

  -- likewise
  new_no_less : (object x : ℕ) → object < C.objects → Has D object x → next object ≤ x → x ≤ u object x
  new_no_less object x below part new =
      let sum : next object + (x - next object) ≡ x = omega arith in
      subst (λ (y : ℕ). y ≤ u object y) sum (new_above (x - next object) object below (omega (arith, (names object below).below x part)))

-- an arrow leaves the object, or none is there that does
option_cases : (object : ℕ) (arrow : Option ArrowEnds) → ((ends : ArrowEnds) × (arrow ≡ Some ends) × (ends.source.0 ≡ object))
    ⊎ ((ends : ArrowEnds) → arrow ≡ Some ends → ends.source.0 ≢ object)
option_cases object None = inr (λ ends is leaves. let no : ⊥ = cc in no)
option_cases object (Some ends) = elim (cases_eq ends.source.0 object) [
  | inl leaves ↦ inl (ends, refl, leaves)
  | inr other ↦ inr (λ each is leaves. let same : ends ≡ each = cc in other (ap (λ (e : ArrowEnds). e.source.0) same ∙ leaves))
]

-- v and w have one value under each arrow before place n that leaves the object
abbrev pub AreSameBefore : Signature → Instance → ℕ → ℕ → ℕ → ℕ → Type 0
AreSameBefore C D object v w n = (b : ℕ) (other : ArrowEnds) → b < n → slice_get C.arrows b ≡ Some other → other.source.0 ≡ object → D.value b v ≡ D.value b w

same_more : (C : Signature) (D : Instance) (object v w n : ℕ) → AreSameBefore C D object v w n
    → ((other : ArrowEnds) → slice_get C.arrows n ≡ Some other → other.source.0 ≡ object → D.value n v ≡ D.value n w) → AreSameBefore C D object v w (suc n)
same_more C D object v w n all here b other low there leaves = elim (cases_eq b n) [
  | inl same ↦
      let there_n : slice_get C.arrows n ≡ Some other = subst (λ (m : ℕ). slice_get C.arrows m ≡ Some other) same there in
      subst (λ (m : ℕ). D.value m v ≡ D.value m w) (sym same) (here other there_n leaves)
  | inr differ ↦ all b other (omega arith) there leaves
]

-- two parts have one value under each of the first arrows that leave the object, or there is a first that tells them apart
difference_cases : (C : Signature) (D : Instance) (object v w n : ℕ) → AreSameBefore C D object v w n ⊎ ((a : ℕ) × (ends : ArrowEnds) × IsFirstDifference C D object v w a ends)
difference_cases C D object v w zero = inl (λ b other low there leaves. absurd (omega arith))
difference_cases C D object v w (suc n) =
    elim (difference_cases C D object v w n) [
      | inr found ↦ inr found
      | inl all ↦
          elim (option_cases object (slice_get C.arrows n)) [
            | inl (ends, there, leaves) ↦
                elim (cases_eq (D.value n v) (D.value n w)) [
                  | inl same ↦ inl (same_more C D object v w n all (λ other is starts. same))
                  | inr differ ↦ inr (n, ends, record { there = there; leaves = leaves; differ = differ; same_before = all })
                ]
            | inr none ↦ inl (same_more C D object v w n all (λ other is starts. absurd (none other is starts)))
          ]
    ]

-- the first arrow that tells two parts apart that are over one host part outside the match
first_difference : (C : Signature) (R : Redex) (D : Instance) (k e : Map) → IsCopying C R D k e → (object v w : ℕ) → object < C.objects → Has D object v → Has D object w
    → IsOutside R object (e object v) → e object v ≡ e object w → v ≢ w → (a : ℕ) × (ends : ArrowEnds) × IsFirstDifference C D object v w a ends
first_difference C R D k e copying object v w below v_part w_part outside same differ =
    elim (difference_cases C D object v w (length C.arrows)) [
      | inl all ↦ absurd (differ (copying.once object v w below v_part w_part outside same
          (λ a ends there leaves. all a ends (slice_get_within C.arrows a ends there) there leaves)))
      | inr found ↦ found
    ]

module _ (C : Signature) (category : IsCategory C) (rank : ℕ → ℕ) (ranked : IsRank C rank) (R : Redex) (match : IsInjectiveMatch C R) (next : ℕ → ℕ)
    (D : Instance) (k e : Map) (copying : IsCopying C R D k e) (last : ℕ → ℕ) (names : AreCopyNames C R next D k e last)
    (E : Instance) (j i : Map) (final : IsFinalComplement C R E j i) (end : ℕ → ℕ) (others : AreCopyNames C R next E j i end)
    (u v : Map) (same : IsIsomorphism C R D k e E j i u v) where
  value_over : (object a x y : ℕ) (ends : ArrowEnds) → slice_get C.arrows a ≡ Some ends → ends.source.0 ≡ object → Has D object x → Has D object y → e object x ≡ e object y
      → Has D ends.target.0 (D.value a x) × Has D ends.target.0 (D.value a y) × (e ends.target.0 (D.value a x) ≡ e ends.target.0 (D.value a y))
  value_over object a x y ends there leaves x_part y_part over =
      let x_source = subst (λ (o : ℕ). Has D o x) (sym leaves) x_part in
      let y_source = subst (λ (o : ℕ). Has D o y) (sym leaves) y_part in
      let over_source : e ends.source.0 x ≡ e ends.source.0 y = subst (λ (o : ℕ). e o x ≡ e o y) (sym leaves) over in (
        copying.instance.values a ends x there x_source,
        copying.instance.values a ends y there y_source,
        copying.to_host.commutes a ends x there x_source ∙ ap (R.host.value a) over_source ∙ sym (copying.to_host.commutes a ends y there y_source),
      )

  u_value : (object a x : ℕ) (ends : ArrowEnds) → slice_get C.arrows a ≡ Some ends → ends.source.0 ≡ object → Has D object x → u ends.target.0 (D.value a x) ≡ E.value a (u object x)
  u_value object a x ends there leaves part =
      same.there.homomorphism.natural.commutes a ends x there (subst (λ (o : ℕ). Has D o x) (sym leaves) part) ∙ ap (λ (o : ℕ). E.value a (u o x)) leaves

  u_injective : (object x y : ℕ) → object < C.objects → Has D object x → Has D object y → u object x ≡ u object y → x ≡ y
  u_injective object x y below x_part y_part one =
      sym (same.inverse.returns object x below x_part) ∙ ap (v object) one ∙ same.inverse.returns object y below y_part

  -- over the match the order is that of the kept parts
  kept_keeps : (object x y g : ℕ) → object < C.objects → Has D object x → Has D object y → e object x ≡ e object y → x < y
      → Has R.left object g → R.m object g ≡ e object x → u object x < u object y
  kept_keeps object x y g below x_part y_part over less left is =
      let first = copying.kept object g x below left x_part (sym is) in
      let second = copying.kept object g y below left y_part (sym over ∙ sym is) in
      let x_is : u object x ≡ j object first.0 = ap (u object) (sym first.2) ∙ same.there.on_keep object first.0 below first.1 in
      let y_is : u object y ≡ j object second.0 = ap (u object) (sym second.2) ∙ same.there.on_keep object second.0 below second.1 in
      let x_k = first.2 in
      let y_k = second.2 in
      let order : first.0 < second.0 = (names object below).kept_order first.0 second.0 first.1 second.1 (ap (e object) x_k ∙ over ∙ sym (ap (e object) y_k)) (omega arith) in
      elim (cases_order (u object x) (u object y)) [
        | inr (inl ok) ↦ ok
        | inl one ↦ let equal = u_injective object x y below x_part y_part one in absurd (omega arith)
        | inr (inr more) ↦
            let over_keep : i object (j object second.0) ≡ i object (j object first.0) =
            ap (i object) (sym y_is) ∙ same.there.over_host object y below y_part ∙ sym over ∙ sym (same.there.over_host object x below x_part) ∙ ap (i object) x_is in
            let back : second.0 < first.0 = (others object below).kept_order second.0 first.0 second.1 first.1 over_keep (omega arith) in
            absurd (omega arith)
      ]

  -- the map keeps the order over each host part, by induction on the rank
  keeps_below : (n object x y : ℕ) → rank object < n → object < C.objects → Has D object x → Has D object y → e object x ≡ e object y → x < y → u object x < u object y
  keeps_below zero object x y low below x_part y_part over less = absurd (omega arith)
  keeps_below (suc n) object x y low below x_part y_part over less =
      elim (sides R object (e object x)) [
        | inl (g, left, is) ↦ kept_keeps object x y g below x_part y_part over less left is
        | inr outside ↦
            let found = first_difference C R D k e copying object x y below x_part y_part outside over (λ one. omega arith) in
            let a : ℕ = found.0 in
            let ends : ArrowEnds = found.1 in
            let first = found.2 in
            let values = value_over object a x y ends first.there first.leaves x_part y_part over in
            let lesser : D.value a x < D.value a y = (names object below).copy_order x y a ends x_part y_part outside over less first in
            let falls : rank ends.target.0 < rank object = subst (λ (o : ℕ). rank ends.target.0 < rank o) first.leaves (ranked a ends first.there) in
            let above : u ends.target.0 (D.value a x) < u ends.target.0 (D.value a y) =
            keeps_below n ends.target.0 (D.value a x) (D.value a y) (omega arith) (category.targets a ends first.there) values.0 values.1 values.2 lesser in
            let x_value = u_value object a x ends first.there first.leaves x_part in
            let y_value = u_value object a y ends first.there first.leaves y_part in
            elim (cases_order (u object x) (u object y)) [
              | inr (inl ok) ↦ ok
              | inl one ↦ let equal = u_injective object x y below x_part y_part one in absurd (omega arith)
              | inr (inr more) ↦
                  let x_over = same.there.over_host object x below x_part in
                  let y_over = same.there.over_host object y below y_part in
                  let down : E.value a (u object y) < E.value a (u object x) =
                  (others object below).copy_order (u object y) (u object x) a ends (same.inverse.there object y below y_part) (same.inverse.there object x below x_part)
                  (λ g left is. outside g left (is ∙ y_over ∙ sym over)) (y_over ∙ sym over ∙ sym x_over) more
                  (record {
                    there = first.there;
                    leaves = first.leaves;
                    differ = λ one. let equal : u ends.target.0 (D.value a x) ≡ u ends.target.0 (D.value a y) = x_value ∙ sym one ∙ sym y_value in omega arith;
                    same_before = λ b other earlier there leaves.
                        sym (u_value object b y other there leaves y_part) ∙ ap (u other.target.0) (sym (first.same_before b other earlier there leaves)) ∙ u_value object b x other there leaves x_part;
                  }) in
                  absurd (omega arith)
            ]
      ]

  keeps_order : KeepsOrder C D e u
  keeps_order object x y below x_part y_part over less = keeps_below (suc (rank object)) object x y (omega arith) below x_part y_part over less

  -- so does the map back
  back_keeps : KeepsOrder C E i v
  back_keeps object x y below x_part y_part over less =
      let x_back = same.inverse.back object x below x_part in
      let y_back = same.inverse.back object y below y_part in
      let x_goes = same.inverse.goes object x below x_part in
      let y_goes = same.inverse.goes object y below y_part in
      elim (cases_order (v object x) (v object y)) [
        | inr (inl ok) ↦ ok
        | inl one ↦ let equal : x ≡ y = sym x_goes ∙ ap (u object) one ∙ y_goes in absurd (omega arith)
        | inr (inr more) ↦
            let down : u object (v object y) < u object (v object x) = keeps_order object (v object y) (v object x) below y_back x_back
            (same.back.over_host object y below y_part ∙ sym over ∙ sym (same.back.over_host object x below x_part)) more in
            absurd (omega arith)
      ]

  module _ (hosts : (object g : ℕ) → object < C.objects → Has R.host object g → g < next object) where
    -- each part goes to itself
    stays : SameOn C D u identity
    stays object x below part =
        elim (cases_lt x (next object)) [
          | inl old ↦
              old_stays C R next hosts D k e last names E j i end others u v same.inverse same.there.over_host same.back.over_host copying.to_host.parts keeps_order object x below part old
          | inr new ↦
              let image = same.inverse.there object x below part in
              let image_new = new_stays_new C R next hosts D k e last names E j i end others u v same.inverse same.there.over_host same.back.over_host copying.to_host.parts keeps_order object x below part
              (omega arith) in
              let up = new_no_less C R next hosts D k e last names E j i end others u v same.inverse same.there.over_host same.back.over_host copying.to_host.parts keeps_order object x below part
              (omega arith) in
              let back_inverse : AreInverse C E D v u = record { there = same.inverse.back; back = same.inverse.there; returns = same.inverse.goes; goes = same.inverse.returns } in
              let down = new_no_less C R next hosts E j i end others D k e last names v u back_inverse same.back.over_host same.there.over_host final.to_host.natural.parts back_keeps
              object (u object x) below image image_new in
              let returns = same.inverse.returns object x below part in
              omega arith
        ]

    -- no next name is left to one of the two alone
    no_more : (object : ℕ) → object < C.objects → end object ≤ last object
    no_more object below =
        elim (cases_lt (last object) (end object)) [
          | inl less ↦
              let there = (others object below).all (last object) ((names object below).grows) less in
              let back = same.inverse.back object (last object) below there in
              let stay : u object (v object (last object)) ≡ v object (last object) = stays object (v object (last object)) below back in
              let goes = same.inverse.goes object (last object) below there in
              let low = (names object below).below (v object (last object)) back in
              absurd (omega arith)
          | inr more ↦ omega arith
        ]

-- the context of a sesqui-pushout step is the only one
pub context_once : (C : Signature) → IsCategory C → (rank : ℕ → ℕ) → IsRank C rank → (R : Redex) → IsInjectiveMatch C R → (next : ℕ → ℕ)
    → ((object g : ℕ) → object < C.objects → Has R.host object g → g < next object)
    → (D : Instance) (k e : Map) (last : ℕ → ℕ) → IsCopying C R D k e → AreCopyNames C R next D k e last
    → (E : Instance) (j i : Map) (end : ℕ → ℕ) → IsCopyContext C R next E j i end → AreEqualContexts C R D k e last E j i end
context_once C category rank ranked R match next hosts D k e last copying names E j i end other =
    let first : IsFinalComplement C R D k e = final_from_copying C category rank ranked R match D k e copying in
    let maps = final_once C category R D k e E j i first other.final in
    let u : Map = maps.0 in
    let v : Map = maps.1 in
    let same : IsIsomorphism C R D k e E j i u v = maps.2 in
    let stay : SameOn C D u identity = stays C category rank ranked R match next D k e copying last names E j i other.final end other.names u v same hosts in
    let equal = same_where_names_stay C category R D k e E j i u v first same stay in
    record {
      same = equal.0;
      from_keep = equal.1;
      to_host = equal.2;
      next = λ object below.
          let up = no_more C category rank ranked R match next D k e copying last names E j i other.final end other.names u v same hosts object below in
          let down : last object ≤ end object = elim (cases_lt (end object) (last object)) [
            | inl less ↦
                let there = (names object below).all (end object) ((other.names object below).grows) less in
                let stayed = stay object (end object) below there in
                let low = (other.names object below).below (u object (end object)) (same.inverse.there object (end object) below there) in
                absurd (omega arith)
            | inr more ↦ omega arith
          ] in
          omega arith;
    }
