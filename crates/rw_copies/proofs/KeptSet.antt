-- The largest kept set is a final pullback complement, over any schema.
use Rattle.std.proofs.Common.{◌≡◌, ◌∙◌, ◌<◌, ◌==◌, ℕ, inl, inr, Bool, true, List, [], ◌∷◌, Contains, Some, map, slice_get, refl, sym, ap, subst}
use Rattle.std.specs.List.{list_any}
use Rattle.rw_schema.specs.declared.ids.ArrowId.{ArrowId}
use Rattle.rw_schema.specs.declared.signature.ArrowEnds.{ArrowEnds}
use Rattle.rw_schema.specs.declared.signature.AttrEnds.{AttrEnds}
use Rattle.rw_schema.specs.Signature.{Signature, IsCategory, IsPath}
use Rattle.rw_spec.specs.Homomorphism.{IsHomomorphism, after}
use Rattle.rw_spec.specs.Instance.{Instance, IsInstance, Has, follow}
use Rattle.rw_spec.specs.Natural.{Map, IsNatural}
use Rattle.rw_spec.proofs.Look.{contains_found, found_contained}
use Rattle.rw_spec.proofs.Sequences.{contains_map, contained_in_map}
use Rattle.rw_spec.specs.Pairing.{IsPairing}
use Rattle.rw_copies.specs.FinalComplement.{over_host, IsCompetitor, IsMediatingOver, IsFinalComplement}
use Rattle.rw_copies.specs.Copying.{IsInjectiveMatch}
use Rattle.rw_copies.specs.KeptSet.{IsLargestKept}
use Rattle.rw_copies.proofs.Final.{sides}
use Rattle.rw_complement.specs.Complement.{identity}
use Rattle.rw_complement.specs.Redex.{IsInjective}
use Rattle.rw_spec.specs.Redex.{Redex}

-- the images of names, as a test
abbrev pub images : (ℕ → List ℕ) → Map → ℕ → ℕ → Bool
images names f object g = list_any (λ image. image == g) (map (f object) (names object))

image_of_name : (names : ℕ → List ℕ) (f : Map) (object x : ℕ) → Contains (names object) x → images names f object (f object x) ≡ true
image_of_name names f object x there = found_contained (map (f object) (names object)) (f object x) (contains_map (f object) (names object) x there)

name_of_image : (names : ℕ → List ℕ) (f : Map) (object g : ℕ) → images names f object g ≡ true → (x : ℕ) × Contains (names object) x × (f object x ≡ g)
name_of_image names f object g found = contained_in_map (f object) (names object) g (contains_found (map (f object) (names object)) g found)

module _ (C : Signature) (category : IsCategory C) (R : Redex) (match : IsInjectiveMatch C R)
    (injective : IsInjective C R.keep R.l)
    (in_set : ℕ → ℕ → Bool) (D : Instance) (k : Map) (is : IsLargestKept C R in_set D k) where
  -- the images of a natural map into the host whose parts over the match come from kept parts are in the set
  images_in : (T : Instance) (d : Map) → IsInstance C T → IsNatural C T R.host d
      → ((object x y : ℕ) → object < C.objects → Has T object x → Has R.left object y → d object x ≡ R.m object y → (z : ℕ) × Has R.keep object z × (R.l object z ≡ y))
      → (object x : ℕ) → object < C.objects → Has T object x → Has D object (d object x)
  images_in T d instance natural kept object x below part =
      is.there object (d object x) below (natural.parts object x below part)
      (is.largest (images T.names d) (record {
        values = λ a ends g there has found.
            let from = name_of_image T.names d ends.source.0 g found in
            let next = natural.commutes a ends from.0 there from.1 in
            subst (λ (y : ℕ). images T.names d ends.target.0 y ≡ true) (next ∙ ap (R.host.value a) from.2)
            (image_of_name T.names d ends.target.0 (T.value a from.0) (instance.values a ends from.0 there from.1));
        kept = λ o y known left found.
            let from = name_of_image T.names d o (R.m o y) found in
            kept o from.0 y known from.1 left from.2;
      }) object (d object x) below (natural.parts object x below part) (image_of_name T.names d object x part))

  -- k and the kept parts
  kept_natural : IsNatural C R.keep R.host (after R.m R.l)
  kept_natural = record {
    parts = λ object z below part. match.m.parts object (R.l object z) below (match.l.natural.parts object z below part);
    commutes = λ a ends z there part. ap (R.m ends.target.0) (match.l.natural.commutes a ends z there part)
        ∙ match.m.commutes a ends (R.l ends.source.0 z) there (match.l.natural.parts ends.source.0 z (category.sources a ends there) part);
  }

  keep_in : (object z : ℕ) → object < C.objects → Has R.keep object z → Has D object (R.m object (R.l object z))
  keep_in object z below part =
      images_in R.keep (after R.m R.l) match.keep kept_natural
      (λ o y x known y_part left same. (y, y_part, match.injective o (R.l o y) x known (match.l.natural.parts o y known y_part) left same)) object z below part

  keep_has : (object z : ℕ) → object < C.objects → Has R.keep object z → Has D object (k object z)
  keep_has object z below part = subst (λ (g : ℕ). Has D object g) (sym (is.from_keep object z below part)) (keep_in object z below part)

  -- D as an instance
  set_values : (a : ℕ) (ends : ArrowEnds) (g : ℕ) → slice_get C.arrows a ≡ Some ends → Has D ends.source.0 g → Has D ends.target.0 (D.value a g)
  set_values a ends g there part =
      let own = is.back ends.source.0 g (category.sources a ends there) part in
      subst (λ (y : ℕ). Has D ends.target.0 y) (sym (is.arrows a ends g there part))
      (is.there ends.target.0 (R.host.value a g) (category.targets a ends there) (match.host.values a ends g there own.0) (is.set.values a ends g there own.0 own.1))

  follow_host : (from : ℕ) (path : List ArrowId) (to g : ℕ) → IsPath C from path to → Has D from g → follow D path g ≡ follow R.host path g
  follow_host from [] to g leads part = refl
  follow_host from (arrow ∷ path) to g (ends, there, leaves, leads) part =
      let source : Has D ends.source.0 g = subst (λ (o : ℕ). Has D o g) (sym leaves) part in
      follow_host ends.target.0 path to (D.value arrow.0 g) leads (set_values arrow.0 ends g there source) ∙ ap (follow R.host path) (is.arrows arrow.0 ends g there source)

  -- the cell of a part of the match
  matched_cell : (c : ℕ) (ends : AttrEnds) (g x : ℕ) → slice_get C.attributes c ≡ Some ends → Has D ends.object.0 g → Has R.left ends.object.0 x → R.m ends.object.0 x ≡ g
      → (z : ℕ) × Has R.keep ends.object.0 z × (R.l ends.object.0 z ≡ x) × (k ends.object.0 z ≡ g) × (D.cell c g ≡ R.keep.cell c z)
  matched_cell c ends g x there part left same =
      let object : ℕ = ends.object.0 in
      let below = category.holders c ends there in
      let own = is.back object g below part in
      let found = is.set.kept object x below left (ap (in_set object) same ∙ own.1) in
      let over : k object found.0 ≡ g = is.from_keep object found.0 below found.1 ∙ ap (R.m object) found.2 ∙ same in
      (found.0, found.1, found.2, over, ap (D.cell c) (sym over) ∙ is.kept_cells c ends found.0 there found.1)

  set_instance : IsInstance C D
  set_instance = record {
    values = set_values;
    atoms = λ c ends g atom there part holds.
        elim (sides R ends.object.0 g) [
          | inl (x, left, same) ↦ let found = matched_cell c ends g x there part left same in match.keep.atoms c ends found.0 atom there found.1 (sym found.4 ∙ holds)
          | inr outside ↦ match.host.atoms c ends g atom there (is.back ends.object.0 g (category.holders c ends there) part).0 (sym (is.host_cells c ends g there part outside) ∙ holds)
        ];
    equations = λ n equation g there part.
        let paths = category.paths n equation there in
        follow_host equation.object.0 equation.left paths.0 g paths.1 part
        ∙ match.host.equations n equation g there (is.back equation.object.0 g (category.starts n equation there) part).0
        ∙ sym (follow_host equation.object.0 equation.right paths.0 g paths.2 part);
  }

  set_to_host : IsHomomorphism C D R.host identity
  set_to_host = record {
    natural = record { parts = λ object g below part. (is.back object g below part).0; commutes = λ a ends g there part. is.arrows a ends g there part };
    keeps = λ c ends g atom there part holds.
        elim (sides R ends.object.0 g) [
          | inl (x, left, same) ↦
              let found = matched_cell c ends g x there part left same in
              ap (R.host.cell c) (sym same) ∙ sym (match.cells c ends x there left) ∙ ap (R.left.cell c) (sym found.2)
              ∙ match.l.keeps c ends found.0 atom there found.1 (sym found.4 ∙ holds)
          | inr outside ↦ sym (is.host_cells c ends g there part outside) ∙ holds
        ];
  }

  set_pairing : IsPairing C (over_host R D identity) R.keep R.l k
  set_pairing = record {
    values = match.keep.values;
    to_left = match.l;
    to_right = record {
      natural = record {
        parts = keep_has;
        commutes = λ a ends z there part.
            let below = category.sources a ends there in
            is.from_keep ends.target.0 (R.keep.value a z) (category.targets a ends there) (match.keep.values a ends z there part) ∙ kept_natural.commutes a ends z there part
            ∙ ap (R.host.value a) (sym (is.from_keep ends.source.0 z below part)) ∙ sym (is.arrows a ends (k ends.source.0 z) there (keep_has ends.source.0 z below part));
      };
      keeps = λ c ends z atom there part holds. is.kept_cells c ends z there part ∙ holds;
    };
    agrees = λ object z below part. sym (is.from_keep object z below part);
    each = λ object x g below left part same.
        let found = is.set.kept object x below left (ap (in_set object) same ∙ (is.back object g below part).1) in
        (found.0, found.1, found.2, is.from_keep object found.0 below found.1 ∙ ap (R.m object) found.2 ∙ same);
    once = λ object y z below y_part z_part same _. injective object y z below y_part z_part same;
    cells = λ c ends z atom there part _ holds. sym (is.kept_cells c ends z there part) ∙ holds;
  }

  module _ (T : Instance) (d : Map) (P : Instance) (p q w : Map) (competitor : IsCompetitor C R T d P p q w) where
    image_has : (object x : ℕ) → object < C.objects → Has T object x → Has D object (d object x)
    image_has = images_in T d competitor.instance competitor.to_host.natural (λ object x y below part left same.
        let pair = competitor.pullback.each object y x below left part (sym same) in
        (w object pair.0, competitor.to_keep.natural.parts object pair.0 below pair.1, competitor.over_left object pair.0 below pair.1 ∙ pair.2))

    set_mediates : IsMediatingOver C D k identity T d P q w d
    set_mediates = record {
      homomorphism = record {
        natural = record {
          parts = image_has;
          commutes = λ a ends x there part.
              competitor.to_host.natural.commutes a ends x there part ∙ sym (is.arrows a ends (d ends.source.0 x) there (image_has ends.source.0 x (category.sources a ends there) part));
        };
        keeps = λ c ends x atom there part holds.
            let object : ℕ = ends.object.0 in
            let below = category.holders c ends there in
            let host : R.host.cell c (d object x) ≡ Some atom = competitor.to_host.keeps c ends x atom there part holds in
            elim (sides R object (d object x)) [
              | inl (v, left, same) ↦
                  let pair = competitor.pullback.each object v x below left part same in
                  let has = competitor.to_keep.natural.parts object pair.0 below pair.1 in
                  let both : P.cell c pair.0 ≡ Some atom = competitor.pullback.cells c ends pair.0 atom there pair.1
                  (ap (R.left.cell c) pair.2 ∙ match.cells c ends v there left ∙ ap (R.host.cell c) same ∙ host) (ap (T.cell c) pair.3 ∙ holds) in
                  let goes : k object (w object pair.0) ≡ d object x =
                  is.from_keep object (w object pair.0) below has ∙ ap (R.m object) (competitor.over_left object pair.0 below pair.1 ∙ pair.2) ∙ same in
                  ap (D.cell c) (sym goes) ∙ is.kept_cells c ends (w object pair.0) there has ∙ competitor.to_keep.keeps c ends pair.0 atom there pair.1 both
              | inr outside ↦ is.host_cells c ends (d object x) there (image_has object x below part) outside ∙ host
            ];
      };
      over_host = λ object x below part. refl;
      on_keep = λ object z below has.
          sym (competitor.pullback.agrees object z below has) ∙ ap (R.m object) (sym (competitor.over_left object z below has))
          ∙ sym (is.from_keep object (w object z) below (competitor.to_keep.natural.parts object z below has));
    }

  -- the largest kept set is a final complement
  pub final_from_largest : IsFinalComplement C R D k identity
  final_from_largest = record {
    instance = set_instance;
    to_host = set_to_host;
    pullback = set_pairing;
    mediating = λ T d P p q w competitor. (d, set_mediates T d P p q w competitor);
    unique = λ T d P p q w u v competitor first second object x below part. first.over_host object x below part ∙ sym (second.over_host object x below part);
  }
