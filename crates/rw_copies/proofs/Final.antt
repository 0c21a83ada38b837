-- A copying is a final pullback complement.
use Rattle.std.proofs.Common.{◌≡◌, ◌≢◌, ◌∙◌, ℕ, zero, suc, ◌<◌, ◌≤◌, ◌⊎◌, inl, inr, Option, Some, None, List, [], ◌∷◌, Contains, slice_get, refl, sym, ap, subst, arith}
use Rattle.std.proofs.lemmas.Bool.{cases_eq}
use Rattle.rw_schema.specs.declared.ids.ArrowId.{ArrowId}
use Rattle.rw_schema.specs.declared.signature.ArrowEnds.{ArrowEnds}
use Rattle.rw_schema.specs.Signature.{Signature, IsCategory, IsPath}
use Rattle.rw_spec.specs.Homomorphism.{IsHomomorphism}
use Rattle.rw_spec.specs.Instance.{Instance, Has, follow}
use Rattle.rw_spec.specs.Natural.{Map, SameOn}
use Rattle.rw_spec.specs.Pairing.{IsPairing}
use Rattle.rw_universal.proofs.Choice.{choose}
use Rattle.rw_universal.proofs.Paths.{path_end, follow_has, follow_natural}
use Rattle.rw_copies.specs.FinalComplement.{over_host, IsCompetitor, IsMediatingOver, IsFinalComplement}
use Rattle.rw_copies.specs.Copying.{IsRank, IsInjectiveMatch, IsOutside, follow_from, IsFamily, HasFamily, IsCopying}
use Rattle.rw_spec.specs.Redex.{Redex}

-- a part elsewhere is not the one, nor among those that go elsewhere
outside_more : (names : List ℕ) (f : ℕ → ℕ) (g name : ℕ) → f name ≢ g → ((x : ℕ) → Contains names x → f x ≢ g) → (x : ℕ) → Contains (name ∷ names) x → f x ≢ g
outside_more names f g name other none x (zero, within, there) = λ same. other (ap f there ∙ same)
outside_more names f g name other none x (suc k, within, there) = none x (k, omega arith, there)

-- a number is the image of a name, or of none
image_cases : (names : List ℕ) (f : ℕ → ℕ) (g : ℕ) → ((x : ℕ) × Contains names x × (f x ≡ g)) ⊎ ((x : ℕ) → Contains names x → f x ≢ g)
image_cases [] f g = inr (λ x there same. omega (arith, there.1))
image_cases (name ∷ names) f g = elim (cases_eq (f name) g) [
  | inl here ↦ inl (name, (zero, omega arith, refl), here)
  | inr other ↦
      elim (image_cases names f g) [
        | inl found ↦ inl (found.0, (suc found.1.0, omega (arith, found.1.1), found.1.2), found.2)
        | inr none ↦ inr (outside_more names f g name other none)
      ]
]

-- a host part is the image of a part of the left side, or lies outside
pub sides : (R : Redex) (object g : ℕ) → ((x : ℕ) × Has R.left object x × (R.m object x ≡ g)) ⊎ IsOutside R object g
sides R object g = image_cases (R.left.names object) (R.m object) g

-- a path does not lead to an object of greater rank
pub rank_falls : (C : Signature) (rank : ℕ → ℕ) → IsRank C rank → (from : ℕ) (path : List ArrowId) (to : ℕ) → IsPath C from path to → rank to ≤ rank from
rank_falls C rank ranked from [] to leads = rw leads (omega arith)
rank_falls C rank ranked from (arrow ∷ path) to (ends, there, leaves, leads) =
    let first : rank ends.target.0 < rank from = subst (λ (o : ℕ). rank ends.target.0 < rank o) leaves (ranked arrow.0 ends there) in
    let rest = rank_falls C rank ranked ends.target.0 path to leads in
    omega arith

-- where there is an answer at an arrow that leaves the object, there is a number that serves
pub answer_of : (object : ℕ) (P : ArrowEnds → ℕ → Type 0) (arrow : Option ArrowEnds)
    → ((ends : ArrowEnds) → arrow ≡ Some ends → ends.source.0 ≡ object → (y : ℕ) × P ends y)
    → (y : ℕ) × ((ends : ArrowEnds) → arrow ≡ Some ends → ends.source.0 ≡ object → P ends y)
answer_of object P None each = (0, λ ends is leaves. let no : ⊥ = cc in absurd no)
answer_of object P (Some pair) each =
    elim (cases_eq pair.source.0 object) [
      | inl leaves ↦
          let found = each pair refl leaves in
          (found.0, λ ends is _. let same : pair ≡ ends = cc in subst (λ (ends : ArrowEnds). P ends found.0) same found.1)
      | inr other ↦ (0, λ ends is leaves. let same : pair ≡ ends = cc in absurd (other (ap (λ (ends : ArrowEnds). ends.source.0) same ∙ leaves)))
    ]

-- y suits x: it lies over the same host part, and each path that leads from x into the pullback leads from y to the kept part
pub record Suits (C : Signature) (D : Instance) (k e : Map) (T : Instance) (d : Map) (P : Instance) (q w : Map) (object x y : ℕ) : Type 0 where
  pub part : Has D object y
  pub over : e object y ≡ d object x
  pub kept : (t : ℕ) (path : List ArrowId) (z : ℕ) → IsPath C object path t → Has P t z → q t z ≡ follow T path x → follow D path y ≡ k t (w t z)

module _ (C : Signature) (category : IsCategory C) (rank : ℕ → ℕ) (ranked : IsRank C rank) (R : Redex) (match : IsInjectiveMatch C R) (D : Instance) (k e : Map) (copying : IsCopying C R D k e) where
  -- the left part under a part of D over the match
  left_is : (object x z : ℕ) → object < C.objects → Has R.left object x → Has R.keep object z → e object (k object z) ≡ R.m object x → R.l object z ≡ x
  left_is object x z below left part same =
      match.injective object (R.l object z) x below (match.l.natural.parts object z below part) left (sym (copying.square object z below part) ∙ same)

  -- the square is a pullback
  copying_pairing : IsPairing C (over_host R D e) R.keep R.l k
  copying_pairing = record {
    values = match.keep.values;
    to_left = match.l;
    to_right = record { natural = copying.from_keep; keeps = λ c ends z atom there part is. copying.kept_cells c ends z there part ∙ is };
    agrees = λ object z below part. sym (copying.square object z below part);
    each = λ object x v below left part same.
        let found = copying.kept object x v below left part (sym same) in
        (found.0, found.1, left_is object x found.0 below left found.1 (ap (e object) found.2 ∙ sym same), found.2);
    once = λ object y z below y_part z_part _ same. copying.kept_once object y z below y_part z_part same;
    cells = λ c ends z atom there part _ is. sym (copying.kept_cells c ends z there part) ∙ is;
  }

  -- an atom of D is the host's
  copying_to_host : IsHomomorphism C D R.host e
  copying_to_host = record {
    natural = copying.to_host;
    keeps = λ c ends v atom there part is.
        let object : ℕ = ends.object.0 in
        let below = category.holders c ends there in
        elim (sides R object (e object v)) [
          | inl (x, left, same) ↦
              let found = copying.kept object x v below left part (sym same) in
              let kept : R.keep.cell c found.0 ≡ Some atom = sym (copying.kept_cells c ends found.0 there found.1) ∙ ap (D.cell c) found.2 ∙ is in
              ap (R.host.cell c) (sym (ap (e object) found.2) ∙ copying.square object found.0 below found.1)
              ∙ sym (match.cells c ends (R.l object found.0) there (match.l.natural.parts object found.0 below found.1))
              ∙ match.l.keeps c ends found.0 atom there found.1 kept
          | inr outside ↦ sym (copying.host_cells c ends v there part outside) ∙ is
        ];
  }

  module _ (T : Instance) (d : Map) (P : Instance) (p q w : Map) (competitor : IsCompetitor C R T d P p q w) where
    abbrev Suitable : ℕ → ℕ → ℕ → Type 0
    Suitable object x y = Suits C D k e T d P q w object x y

    -- a part that suits is carried along an arrow
    carried : (a : ℕ) (ends : ArrowEnds) (x y : ℕ) → slice_get C.arrows a ≡ Some ends → Has T ends.source.0 x → Suitable ends.source.0 x y
        → Suitable ends.target.0 (T.value a x) (D.value a y)
    carried a ends x y there part suits = record {
      part = copying.instance.values a ends y there suits.part;
      over = copying.to_host.commutes a ends y there suits.part ∙ ap (R.host.value a) suits.over ∙ sym (competitor.to_host.natural.commutes a ends x there part);
      kept = λ t path z leads has same. suits.kept t (record { 0 = a } ∷ path) z (ends, there, refl, leads) has same;
    }

    -- likewise where the source is given by an equation
    carried_from : (object a : ℕ) (ends : ArrowEnds) (x y : ℕ) → slice_get C.arrows a ≡ Some ends → ends.source.0 ≡ object → Has T object x → Suitable object x y
        → Suitable ends.target.0 (T.value a x) (D.value a y)
    carried_from object a ends x y there leaves part suits =
        carried a ends x y there (subst (λ (o : ℕ). Has T o x) (sym leaves) part) (subst (λ (o : ℕ). Suitable o x y) (sym leaves) suits)

    value_has : (object a : ℕ) (ends : ArrowEnds) (x : ℕ) → slice_get C.arrows a ≡ Some ends → ends.source.0 ≡ object → Has T object x → Has T ends.target.0 (T.value a x)
    value_has object a ends x there leaves part = competitor.instance.values a ends x there (subst (λ (o : ℕ). Has T o x) (sym leaves) part)

    rank_below : (n object a : ℕ) (ends : ArrowEnds) → slice_get C.arrows a ≡ Some ends → ends.source.0 ≡ object → rank object < suc n → rank ends.target.0 < n
    rank_below n object a ends there leaves low =
        let falls : rank ends.target.0 < rank object = subst (λ (o : ℕ). rank ends.target.0 < rank o) leaves (ranked a ends there) in
        omega arith

    -- a part that suits is carried along a path
    carried_along : (from : ℕ) (path : List ArrowId) (to x y : ℕ) → IsPath C from path to → Has T from x → Suitable from x y → Suitable to (follow T path x) (follow D path y)
    carried_along from [] to x y leads part suits = subst (λ (o : ℕ). Suitable o x y) leads suits
    carried_along from (arrow ∷ path) to x y (ends, there, leaves, leads) part suits =
        carried_along ends.target.0 path to (T.value arrow.0 x) (D.value arrow.0 y) leads (value_has from arrow.0 ends x there leaves part)
        (carried_from from arrow.0 ends x y there leaves part suits)

    -- the pair of the pullback under a part that goes to the match
    pair_of : (object v x : ℕ) → object < C.objects → Has R.left object v → Has T object x → R.m object v ≡ d object x
        → (z : ℕ) × Has P object z × (p object z ≡ v) × (q object z ≡ x)
    pair_of object v x below left part same = competitor.pullback.each object v x below left part same

    -- two parts that suit are one, by induction on the rank
    suits_once : (n object x y z : ℕ) → rank object < n → object < C.objects → Has T object x → Suitable object x y → Suitable object x z → y ≡ z
    suits_once zero object x y z low below part first second = absurd (omega arith)
    suits_once (suc n) object x y z low below part first second =
        elim (sides R object (d object x)) [
          | inl (v, left, same) ↦
              let pair = pair_of object v x below left part same in
              first.kept object [] pair.0 refl pair.1 pair.3 ∙ sym (second.kept object [] pair.0 refl pair.1 pair.3)
          | inr outside ↦
              copying.once object y z below first.part second.part (λ v left same. outside v left (same ∙ first.over)) (first.over ∙ sym second.over)
              (λ a ends there leaves.
              suits_once n ends.target.0 (T.value a x) (D.value a y) (D.value a z) (rank_below n object a ends there leaves low) (category.targets a ends there)
              (value_has object a ends x there leaves part) (carried_from object a ends x y there leaves part first) (carried_from object a ends x z there leaves part second))
        ]

    -- over the match the kept part under the pair suits
    kept_suits : (object x z : ℕ) → object < C.objects → Has P object z → q object z ≡ x → Suitable object x (k object (w object z))
    kept_suits object x z below has is = record {
      part = copying.from_keep.parts object (w object z) below (competitor.to_keep.natural.parts object z below has);
      over = copying.square object (w object z) below (competitor.to_keep.natural.parts object z below has)
          ∙ ap (R.m object) (competitor.over_left object z below has) ∙ competitor.pullback.agrees object z below has ∙ ap (d object) is;
      kept = λ t path other leads there same.
          let end = follow P path z in
          let known = path_end C category object path t leads below in
          let has_end : Has P t end = follow_has C P competitor.pullback.values object path t leads z has in
          let right : q t other ≡ q t end = same ∙ ap (follow T path) (sym is)
          ∙ sym (follow_natural C P T q competitor.pullback.values competitor.pullback.to_right.natural object path t leads z has) in
          let left : p t other ≡ p t end =
          match.injective t (p t other) (p t end) known (competitor.pullback.to_left.natural.parts t other known there) (competitor.pullback.to_left.natural.parts t end known has_end)
          (competitor.pullback.agrees t other known there ∙ ap (d t) right ∙ sym (competitor.pullback.agrees t end known has_end)) in
          let one : other ≡ end = competitor.pullback.once t other end known there has_end left right in
          sym (follow_natural C R.keep D k match.keep.values copying.from_keep object path t leads (w object z) (competitor.to_keep.natural.parts object z below has))
          ∙ ap (k t) (sym (follow_natural C P R.keep w competitor.pullback.values competitor.to_keep.natural object path t leads z has) ∙ ap (w t) (sym one));
    }

    -- what follows from parts that suit the values of x
    module _ (n object x : ℕ) (low : rank object < suc n) (below : object < C.objects) (part : Has T object x) (family : ℕ → ℕ)
        (suits : (a : ℕ) (ends : ArrowEnds) → slice_get C.arrows a ≡ Some ends → ends.source.0 ≡ object → Suitable ends.target.0 (T.value a x) (family a)) where
      -- both sides of an equation lead to parts that suit one part
      sides_meet : (to : ℕ) (left right : List ArrowId) → IsPath C object left to → IsPath C object right to → follow T left x ≡ follow T right x
          → follow_from D family left ≡ follow_from D family right
      sides_meet to [] [] leads_left leads_right same = refl
      sides_meet to [] (b ∷ right) leads_left (ends, there, leaves, leads) same =
          let falls = rank_below (rank object) object b.0 ends there leaves (omega arith) in
          let rest = rank_falls C rank ranked ends.target.0 right to leads in
          let one : rank object ≡ rank to = ap rank leads_left in
          absurd (omega arith)
      sides_meet to (a ∷ left) [] (ends, there, leaves, leads) leads_right same =
          let falls = rank_below (rank object) object a.0 ends there leaves (omega arith) in
          let rest = rank_falls C rank ranked ends.target.0 left to leads in
          let one : rank object ≡ rank to = ap rank leads_right in
          absurd (omega arith)
      sides_meet to (a ∷ left) (b ∷ right) (a_ends, a_there, a_leaves, a_leads) (b_ends, b_there, b_leaves, b_leads) same =
          let first = carried_along a_ends.target.0 left to (T.value a.0 x) (family a.0) a_leads (value_has object a.0 a_ends x a_there a_leaves part) (suits a.0 a_ends a_there a_leaves) in
          let second = carried_along b_ends.target.0 right to (T.value b.0 x) (family b.0) b_leads (value_has object b.0 b_ends x b_there b_leaves part) (suits b.0 b_ends b_there b_leaves) in
          let falls = rank_below n object a.0 a_ends a_there a_leaves low in
          let rest = rank_falls C rank ranked a_ends.target.0 left to a_leads in
          suits_once n to (follow T (a ∷ left) x) (follow D left (family a.0)) (follow D right (family b.0)) (omega arith)
          (path_end C category a_ends.target.0 left to a_leads (category.targets a.0 a_ends a_there))
          (follow_has C T competitor.instance.values object (a ∷ left) to (a_ends, a_there, a_leaves, a_leads) x part)
          first (subst (λ (end : ℕ). Suitable to end (follow D right (family b.0))) (sym same) second)

      -- they are a family
      suits_family : IsFamily C R D e object (d object x) family
      suits_family = record {
        parts = λ a ends there leaves. (suits a ends there leaves).part;
        over = λ a ends there leaves. (suits a ends there leaves).over
            ∙ competitor.to_host.natural.commutes a ends x there (subst (λ (o : ℕ). Has T o x) (sym leaves) part) ∙ ap (λ (o : ℕ). R.host.value a (d o x)) leaves;
        equations = λ number equation there starts.
            let paths = category.paths number equation there in
            sides_meet paths.0 equation.left equation.right
            (subst (λ (o : ℕ). IsPath C o equation.left paths.0) starts paths.1) (subst (λ (o : ℕ). IsPath C o equation.right paths.0) starts paths.2)
            (competitor.instance.equations number equation x there (subst (λ (o : ℕ). Has T o x) (sym starts) part));
      }

      -- outside the match the part of the family suits
      family_suits : (y : ℕ) → IsOutside R object (d object x) → Has D object y → e object y ≡ d object x → HasFamily C D object y family → Suitable object x y
      family_suits y outside has over values = record {
        part = has;
        over = over;
        kept = λ t path z leads there same. paths t path z leads there same;
      }
        where
          paths : (t : ℕ) (path : List ArrowId) (z : ℕ) → IsPath C object path t → Has P t z → q t z ≡ follow T path x → follow D path y ≡ k t (w t z)
          paths t [] z leads there same =
              let known : t < C.objects = subst (λ (o : ℕ). o < C.objects) leads below in
              let here : R.m t (p t z) ≡ d t x = competitor.pullback.agrees t z known there ∙ ap (d t) same in
              absurd (outside (p object z) (subst (λ (o : ℕ). Has R.left o (p o z)) (sym leads) (competitor.pullback.to_left.natural.parts t z known there))
              (subst (λ (o : ℕ). R.m o (p o z) ≡ d o x) (sym leads) here))
          paths t (a ∷ path) z (ends, there, leaves, leads) has same =
              ap (follow D path) (values a.0 ends there leaves) ∙ (suits a.0 ends there leaves).kept t path z leads has same

    -- some part suits, by induction on the rank
    some_suits : (n object x : ℕ) → rank object < n → object < C.objects → Has T object x → (y : ℕ) × Suitable object x y
    some_suits zero object x low below part = absurd (omega arith)
    some_suits (suc n) object x low below part =
        elim (sides R object (d object x)) [
          | inl (v, left, same) ↦
              let pair = pair_of object v x below left part same in
              (k object (w object pair.0), kept_suits object x pair.0 below pair.1 pair.3)
          | inr outside ↦
              let answers : (a : ℕ) → (y : ℕ) × ((ends : ArrowEnds) → slice_get C.arrows a ≡ Some ends → ends.source.0 ≡ object → Suitable ends.target.0 (T.value a x) y) =
              λ a. answer_of object (λ ends y. Suitable ends.target.0 (T.value a x) y) (slice_get C.arrows a) (λ ends there leaves.
              some_suits n ends.target.0 (T.value a x) (rank_below n object a ends there leaves low) (category.targets a ends there) (value_has object a ends x there leaves part)) in
              let family : ℕ → ℕ = λ a. (answers a).0 in
              let suits : (a : ℕ) (ends : ArrowEnds) → slice_get C.arrows a ≡ Some ends → ends.source.0 ≡ object → Suitable ends.target.0 (T.value a x) (family a) = λ a. (answers a).1 in
              let made = copying.each object (d object x) family below (competitor.to_host.natural.parts object x below part) outside (suits_family n object x low below part family suits) in
              (made.0, family_suits n object x low below part family suits made.0 outside made.1 made.2 made.3)
        ]

    -- the map to the parts that suit is the one that is wanted
    suits_mediate : (u : Map) → ((object x : ℕ) → object < C.objects → Has T object x → Suitable object x (u object x)) → IsMediatingOver C D k e T d P q w u
    suits_mediate u suits = record {
      homomorphism = record {
        natural = record {
          parts = λ object x below part. (suits object x below part).part;
          commutes = λ a ends x there part.
              suits_once (suc (rank ends.target.0)) ends.target.0 (T.value a x) (u ends.target.0 (T.value a x)) (D.value a (u ends.source.0 x)) (omega arith) (category.targets a ends there)
              (competitor.instance.values a ends x there part)
              (suits ends.target.0 (T.value a x) (category.targets a ends there) (competitor.instance.values a ends x there part))
              (carried a ends x (u ends.source.0 x) there part (suits ends.source.0 x (category.sources a ends there) part));
        };
        keeps = λ c ends x atom there part is.
            let object : ℕ = ends.object.0 in
            let below = category.holders c ends there in
            let suit = suits object x below part in
            let host : R.host.cell c (d object x) ≡ Some atom = competitor.to_host.keeps c ends x atom there part is in
            elim (sides R object (d object x)) [
              | inl (v, left, same) ↦
                  let pair = pair_of object v x below left part same in
                  let has = competitor.to_keep.natural.parts object pair.0 below pair.1 in
                  let both : P.cell c pair.0 ≡ Some atom = competitor.pullback.cells c ends pair.0 atom there pair.1
                  (ap (R.left.cell c) pair.2 ∙ match.cells c ends v there left ∙ ap (R.host.cell c) same ∙ host) (ap (T.cell c) pair.3 ∙ is) in
                  ap (D.cell c) (suit.kept object [] pair.0 refl pair.1 pair.3) ∙ copying.kept_cells c ends (w object pair.0) there has
                  ∙ competitor.to_keep.keeps c ends pair.0 atom there pair.1 both
              | inr outside ↦
                  copying.host_cells c ends (u object x) there suit.part (λ v left same. outside v left (same ∙ suit.over)) ∙ ap (R.host.cell c) suit.over ∙ host
            ];
      };
      over_host = λ object x below part. (suits object x below part).over;
      on_keep = λ object z below has.
          let part = competitor.pullback.to_right.natural.parts object z below has in
          (suits object (q object z) below part).kept object [] z refl has refl;
    }

    -- each map that is wanted leads to the parts that suit
    mediating_suits : (u : Map) → IsMediatingOver C D k e T d P q w u → (object x : ℕ) → object < C.objects → Has T object x → Suitable object x (u object x)
    mediating_suits u mediates object x below part = record {
      part = mediates.homomorphism.natural.parts object x below part;
      over = mediates.over_host object x below part;
      kept = λ t path z leads has same.
          sym (follow_natural C T D u competitor.instance.values mediates.homomorphism.natural object path t leads x part)
          ∙ ap (u t) (sym same) ∙ mediates.on_keep t z (path_end C category object path t leads below) has;
    }

    copying_mediates : (u : Map) × IsMediatingOver C D k e T d P q w u
    copying_mediates =
        let chosen = choose C.objects T.names (λ object x y. Suitable object x y) (λ object x below part. some_suits (suc (rank object)) object x (omega arith) below part) in
        (chosen.0, suits_mediate chosen.0 chosen.1)

    copying_unique : (u v : Map) → IsMediatingOver C D k e T d P q w u → IsMediatingOver C D k e T d P q w v → SameOn C T u v
    copying_unique u v first second object x below part =
        suits_once (suc (rank object)) object x (u object x) (v object x) (omega arith) below part (mediating_suits u first object x below part) (mediating_suits v second object x below part)

-- a copying is a final complement
pub final_from_copying : (C : Signature) → IsCategory C → (rank : ℕ → ℕ) → IsRank C rank → (R : Redex) → IsInjectiveMatch C R → (D : Instance) (k e : Map) → IsCopying C R D k e
    → IsFinalComplement C R D k e
final_from_copying C category rank ranked R match D k e copying = record {
  instance = copying.instance;
  to_host = copying_to_host C category rank ranked R match D k e copying;
  pullback = copying_pairing C category rank ranked R match D k e copying;
  mediating = copying_mediates C category rank ranked R match D k e copying;
  unique = λ T d P p q w u v competitor. copying_unique C category rank ranked R match D k e copying T d P p q w competitor u v;
}
