-- Pullbacks are taken object by object: a pairing is a pullback.
use Rattle.std.proofs.Common.{◌≡◌, ◌∙◌, ℕ, ◌<◌, Some, slice_get, ap, sym}
use Rattle.rw_schema.specs.declared.atom.Atom.{Atom}
use Rattle.rw_schema.specs.declared.parts.Equation.{Equation}
use Rattle.rw_schema.specs.declared.signature.ArrowEnds.{ArrowEnds}
use Rattle.rw_schema.specs.declared.signature.AttrEnds.{AttrEnds}
use Rattle.rw_schema.specs.Signature.{Signature, IsCategory, IsPath}
use Rattle.rw_spec.specs.Instance.{Instance, IsInstance, Has, follow}
use Rattle.rw_spec.specs.Natural.{Map, IsNatural, SameOn}
use Rattle.rw_spec.specs.Pullback.{Cospan, IsCone, IsMediatingTo, IsPullback}
use Rattle.rw_spec.specs.Pairing.{IsPairing}
use Rattle.rw_spec.specs.Values.{HasValues}
use Rattle.rw_universal.proofs.Choice.{choose}
use Rattle.rw_universal.proofs.Paths.{path_end, follow_has, follow_natural}

-- a natural map to an instance sends the ends of both sides of an equation to one part
sides_agree : (C : Signature) (X Y : Instance) (f : Map) → HasValues C X → IsNatural C X Y f → IsInstance C Y → IsCategory C
    → (e : ℕ) (equation : Equation) → slice_get C.equations e ≡ Some equation
    → (to : ℕ) → IsPath C equation.object.0 equation.left to → IsPath C equation.object.0 equation.right to
    → (x : ℕ) → Has X equation.object.0 x → f to (follow X equation.left x) ≡ f to (follow X equation.right x)
sides_agree C X Y f values natural instance category e equation there to left right x part =
    follow_natural C X Y f values natural equation.object.0 equation.left to left x part
    ∙ instance.equations e equation (f equation.object.0 x) there (natural.parts equation.object.0 x (category.starts e equation there) part)
    ∙ sym (follow_natural C X Y f values natural equation.object.0 equation.right to right x part)

-- w is a part of P that leads to the two images of x
abbrev pub IsPairOf : Instance → Map → Map → Map → Map → ℕ → ℕ → ℕ → Type 0
IsPairOf P p q d s object x w = Has P object w × (p object w ≡ d object x) × (q object w ≡ s object x)

module _ (C : Signature) (category : IsCategory C) (S : Cospan) (left : IsInstance C S.left) (right : IsInstance C S.right) (P : Instance) (p q : Map) (pairing : IsPairing C S P p q) where
  -- the two sides of each equation lead from a pair to one pair, since they do in both parts
  equations_hold : (e : ℕ) (equation : Equation) (w : ℕ) → slice_get C.equations e ≡ Some equation → Has P equation.object.0 w
      → follow P equation.left w ≡ follow P equation.right w
  equations_hold e equation w there part =
      let paths = category.paths e equation there in
      let to : ℕ = paths.0 in
      let below : to < C.objects = path_end C category equation.object.0 equation.left to paths.1 (category.starts e equation there) in
      pairing.once to (follow P equation.left w) (follow P equation.right w) below
      (follow_has C P pairing.values equation.object.0 equation.left to paths.1 w part)
      (follow_has C P pairing.values equation.object.0 equation.right to paths.2 w part)
      (sides_agree C P S.left p pairing.values pairing.to_left.natural left category e equation there to paths.1 paths.2 w part)
      (sides_agree C P S.right q pairing.values pairing.to_right.natural right category e equation there to paths.1 paths.2 w part)

  -- a pairing is an instance
  pairing_instance : IsInstance C P
  pairing_instance = record {
    values = pairing.values;
    atoms = λ c ends w atom there part is.
        left.atoms c ends (p ends.object.0 w) atom there (pairing.to_left.natural.parts ends.object.0 w (category.holders c ends there) part)
        (pairing.to_left.keeps c ends w atom there part is);
    equations = equations_hold;
  }

  module _ (T : Instance) (d s : Map) (cone : IsCone C S T d s) (u : Map)
      (paired : (object x : ℕ) → object < C.objects → Has T object x → IsPairOf P p q d s object x (u object x)) where
    -- going to pairs commutes with each arrow, since going to the parts does
    paired_commutes : (a : ℕ) (ends : ArrowEnds) (x : ℕ) → slice_get C.arrows a ≡ Some ends → Has T ends.source.0 x
        → u ends.target.0 (T.value a x) ≡ P.value a (u ends.source.0 x)
    paired_commutes a ends x there part =
        let below : ends.source.0 < C.objects = category.sources a ends there in
        let above : ends.target.0 < C.objects = category.targets a ends there in
        let start = paired ends.source.0 x below part in
        let end = paired ends.target.0 (T.value a x) above (cone.instance.values a ends x there part) in
        pairing.once ends.target.0 (u ends.target.0 (T.value a x)) (P.value a (u ends.source.0 x)) above end.0
        (pairing.values a ends (u ends.source.0 x) there start.0)
        (end.1 ∙ cone.to_left.natural.commutes a ends x there part ∙ ap (S.left.value a) (sym start.1)
        ∙ sym (pairing.to_left.natural.commutes a ends (u ends.source.0 x) there start.0))
        (end.2 ∙ cone.to_right.natural.commutes a ends x there part ∙ ap (S.right.value a) (sym start.2)
        ∙ sym (pairing.to_right.natural.commutes a ends (u ends.source.0 x) there start.0))

    -- a pair has each atom that both parts have, so each atom of the cone
    paired_keeps : (c : ℕ) (ends : AttrEnds) (x : ℕ) (atom : Atom) → slice_get C.attributes c ≡ Some ends → Has T ends.object.0 x
        → T.cell c x ≡ Some atom → P.cell c (u ends.object.0 x) ≡ Some atom
    paired_keeps c ends x atom there part is =
        let pair = paired ends.object.0 x (category.holders c ends there) part in
        pairing.cells c ends (u ends.object.0 x) atom there pair.0
        (ap (S.left.cell c) pair.1 ∙ cone.to_left.keeps c ends x atom there part is)
        (ap (S.right.cell c) pair.2 ∙ cone.to_right.keeps c ends x atom there part is)

    -- going to pairs is a homomorphism that commutes with the maps to both sides
    paired_mediates : IsMediatingTo C P p q T d s u
    paired_mediates = record {
      homomorphism = record {
        natural = record { parts = λ object x below part. (paired object x below part).0; commutes = paired_commutes };
        keeps = paired_keeps;
      };
      to_left = λ object x below part. (paired object x below part).1;
      to_right = λ object x below part. (paired object x below part).2;
    }

  -- from each cone a homomorphism leads to the pairing and commutes
  pairs_mediate : (T : Instance) (d s : Map) → IsCone C S T d s → (u : Map) × IsMediatingTo C P p q T d s u
  pairs_mediate T d s cone =
      let chosen = choose C.objects T.names (IsPairOf P p q d s) (λ object x below part.
      let pair = pairing.each object (d object x) (s object x) below
      (cone.to_left.natural.parts object x below part) (cone.to_right.natural.parts object x below part) (cone.agrees object x below part) in
      (pair.0, (pair.1, pair.2, pair.3))) in
      (chosen.0, paired_mediates T d s cone chosen.0 chosen.1)

  -- two maps to the pairing that commute are one, since a pair is told by its parts
  pairs_unique : (T : Instance) (d s u v : Map) → IsCone C S T d s → IsMediatingTo C P p q T d s u → IsMediatingTo C P p q T d s v → SameOn C T u v
  pairs_unique T d s u v cone first second object x below part =
      pairing.once object (u object x) (v object x) below (first.homomorphism.natural.parts object x below part)
      (second.homomorphism.natural.parts object x below part)
      (first.to_left object x below part ∙ sym (second.to_left object x below part))
      (first.to_right object x below part ∙ sym (second.to_right object x below part))

-- a pairing is a pullback
pub pullback_from_pairing : (C : Signature) → IsCategory C → (S : Cospan) → IsInstance C S.left → IsInstance C S.right
    → (P : Instance) (p q : Map) → IsPairing C S P p q → IsPullback C S P p q
pullback_from_pairing C category S left right P p q pairing = record {
  cone = record {
    instance = pairing_instance C category S left right P p q pairing;
    to_left = pairing.to_left;
    to_right = pairing.to_right;
    agrees = pairing.agrees;
  };
  mediating = pairs_mediate C category S left right P p q pairing;
  unique = pairs_unique C category S left right P p q pairing;
}
