-- Pushouts are taken object by object: a gluing is an initial cocone.
use Rattle.std.proofs.Common.{◌≡◌, ◌∙◌, ℕ, ◌<◌, Some, slice_get, inl, inr, refl, ap, sym, subst}
use Rattle.rw_schema.specs.declared.atom.Atom.{Atom}
use Rattle.rw_schema.specs.declared.parts.Equation.{Equation}
use Rattle.rw_schema.specs.declared.signature.ArrowEnds.{ArrowEnds}
use Rattle.rw_schema.specs.declared.signature.AttrEnds.{AttrEnds}
use Rattle.rw_schema.specs.Atoms.{kind_of}
use Rattle.rw_schema.specs.Signature.{Signature, IsCategory}
use Rattle.rw_spec.specs.Cocone.{Frame, IsCocone, IsMediating, IsInitialCocone}
use Rattle.rw_spec.specs.Homomorphism.{IsHomomorphism, after}
use Rattle.rw_spec.specs.Instance.{Instance, IsInstance, Has, follow}
use Rattle.rw_spec.specs.Natural.{Map, IsNatural, SameOn}
use Rattle.rw_universal.specs.Gluing.{IsGluing, From}
use Rattle.rw_universal.proofs.Choice.{choose}
use Rattle.rw_universal.proofs.Paths.{follow_natural}

-- an equation that holds in an instance holds at the images of its parts
pub equation_at_image : (C : Signature) → IsCategory C → (X Y : Instance) (f : Map) → IsInstance C X → IsNatural C X Y f
    → (e : ℕ) (equation : Equation) (x w : ℕ) → slice_get C.equations e ≡ Some equation → Has X equation.object.0 x → f equation.object.0 x ≡ w
    → follow Y equation.left w ≡ follow Y equation.right w
equation_at_image C category X Y f instance natural e equation x w there part is =
    let paths = category.paths e equation there in
    ap (follow Y equation.left) (sym is)
    ∙ sym (follow_natural C X Y f instance.values natural equation.object.0 equation.left paths.0 paths.1 x part)
    ∙ ap (f paths.0) (instance.equations e equation x there part)
    ∙ follow_natural C X Y f instance.values natural equation.object.0 equation.right paths.0 paths.2 x part
    ∙ ap (follow Y equation.right) is

-- an atom at the image of a part that has it is of the attribute's kind
kind_from : (C : Signature) (X : Instance) (f : Map) → IsInstance C X → (c : ℕ) (ends : AttrEnds) (w : ℕ) (atom : Atom) → slice_get C.attributes c ≡ Some ends
    → From X f (λ x. X.cell c x ≡ Some atom) ends.object.0 w → kind_of atom ≡ ends.kind
kind_from C X f instance c ends w atom there origin = instance.atoms c ends origin.0 atom there origin.1 origin.3

-- where u after l is d, u commutes with an arrow at the images under l, since l and d do
commutes_at_image : (C : Signature) → IsCategory C → (X H T : Instance) (l d u : Map) → IsInstance C X → IsNatural C X H l → IsNatural C X T d → SameOn C X (after u l) d
    → (a : ℕ) (ends : ArrowEnds) (x w : ℕ) → slice_get C.arrows a ≡ Some ends → Has X ends.source.0 x → l ends.source.0 x ≡ w
    → u ends.target.0 (H.value a w) ≡ T.value a (u ends.source.0 w)
commutes_at_image C category X H T l d u instance to_H to_T through a ends x w there part is =
    ap (λ y. u ends.target.0 (H.value a y)) (sym is)
    ∙ ap (u ends.target.0) (sym (to_H.commutes a ends x there part))
    ∙ through ends.target.0 (X.value a x) (category.targets a ends there) (instance.values a ends x there part)
    ∙ to_T.commutes a ends x there part
    ∙ ap (T.value a) (sym (through ends.source.0 x (category.sources a ends there) part))
    ∙ ap (λ y. T.value a (u ends.source.0 y)) is

-- where u after l is d, u sends the image of a part to a part
part_at_image : (C : Signature) (X T : Instance) (l d u : Map) → IsNatural C X T d → SameOn C X (after u l) d
    → (object x w : ℕ) → object < C.objects → Has X object x → l object x ≡ w → Has T object (u object w)
part_at_image C X T l d u to_T through object x w below part is =
    subst (Has T object) (sym (through object x below part) ∙ ap (u object) is) (to_T.parts object x below part)

-- where u after l is d, u keeps an atom at the image of a part that has it
keeps_at_image : (C : Signature) → IsCategory C → (X T : Instance) (l d u : Map) → IsHomomorphism C X T d → SameOn C X (after u l) d
    → (c : ℕ) (ends : AttrEnds) (w : ℕ) (atom : Atom) → slice_get C.attributes c ≡ Some ends
    → From X l (λ x. X.cell c x ≡ Some atom) ends.object.0 w → T.cell c (u ends.object.0 w) ≡ Some atom
keeps_at_image C category X T l d u to_T through c ends w atom there origin =
    ap (λ y. T.cell c (u ends.object.0 y)) (sym origin.2)
    ∙ ap (T.cell c) (through ends.object.0 origin.0 (category.holders c ends there) origin.1)
    ∙ to_T.keeps c ends origin.0 atom there origin.1 origin.3

-- where u and v after l are d, they are the same at the images under l
same_at_image : (C : Signature) (X : Instance) (l d u v : Map) → SameOn C X (after u l) d → SameOn C X (after v l) d
    → (object x w : ℕ) → object < C.objects → Has X object x → l object x ≡ w → u object w ≡ v object w
same_at_image C X l d u v first second object x w below part is =
    ap (u object) (sym is) ∙ first object x below part ∙ sym (second object x below part) ∙ ap (v object) is

-- z stands for each part that w is the image of, by what d says of it
abbrev pub StandsFor : Instance → Map → Map → ℕ → ℕ → ℕ → Type 0
StandsFor X l d object w z = (x : ℕ) → Has X object x → l object x ≡ w → z ≡ d object x

-- a map that stands for the parts of a side is, after the map from that side, what d says
through_images : (C : Signature) (X H : Instance) (l d u : Map) → IsNatural C X H l
    → ((object w : ℕ) → object < C.objects → Has H object w → StandsFor X l d object w (u object w)) → SameOn C X (after u l) d
through_images C X H l d u to_H stands object x below part = stands object (l object x) below (to_H.parts object x below part) x part refl

module _ (C : Signature) (category : IsCategory C) (F : Frame) (left : IsInstance C F.left) (right : IsInstance C F.right) (H : Instance) (l r : Map) (gluing : IsGluing C F H l r) where
  -- a gluing is an instance
  gluing_instance : IsInstance C H
  gluing_instance = record {
    values = gluing.values;
    atoms = λ c ends w atom there part is.
        elim (gluing.cells c ends w atom there part is) [
          | inl origin ↦ kind_from C F.left l left c ends w atom there origin
          | inr origin ↦ kind_from C F.right r right c ends w atom there origin
        ];
    equations = λ e equation w there part.
        elim (gluing.covers equation.object.0 w (category.starts e equation there) part) [
          | inl origin ↦ equation_at_image C category F.left H l left gluing.from_left.natural e equation origin.0 w there origin.1 origin.2
          | inr origin ↦ equation_at_image C category F.right H r right gluing.from_right.natural e equation origin.0 w there origin.1 origin.2
        ];
  }

  module _ (T : Instance) (d s : Map) (cocone : IsCocone C F T d s) (u : Map) (through_left : SameOn C F.left (after u l) d) (through_right : SameOn C F.right (after u r) s) where
    -- a map that goes on from both sides to the cocone is a homomorphism
    onward_homomorphism : IsHomomorphism C H T u
    onward_homomorphism = record {
      natural = record {
        parts = λ object w below part.
            elim (gluing.covers object w below part) [
              | inl origin ↦ part_at_image C F.left T l d u cocone.from_left.natural through_left object origin.0 w below origin.1 origin.2
              | inr origin ↦ part_at_image C F.right T r s u cocone.from_right.natural through_right object origin.0 w below origin.1 origin.2
            ];
        commutes = λ a ends w there part.
            elim (gluing.covers ends.source.0 w (category.sources a ends there) part) [
              | inl origin ↦
                  commutes_at_image C category F.left H T l d u left gluing.from_left.natural cocone.from_left.natural through_left a ends origin.0 w there origin.1 origin.2
              | inr origin ↦
                  commutes_at_image C category F.right H T r s u right gluing.from_right.natural cocone.from_right.natural through_right a ends origin.0 w there origin.1 origin.2
            ];
      };
      keeps = λ c ends w atom there part is.
          elim (gluing.cells c ends w atom there part is) [
            | inl origin ↦ keeps_at_image C category F.left T l d u cocone.from_left through_left c ends w atom there origin
            | inr origin ↦ keeps_at_image C category F.right T r s u cocone.from_right through_right c ends w atom there origin
          ];
    }

  -- to each cocone a homomorphism leads from the gluing and commutes
  gluing_mediates : (T : Instance) (d s : Map) → IsCocone C F T d s → (u : Map) × IsMediating C F H l r T d s u
  gluing_mediates T d s cocone =
      let chosen = choose C.objects H.names (λ object w z. StandsFor F.left l d object w z × StandsFor F.right r s object w z) (λ object w below part.
      let factor = gluing.finest object (d object) (s object) below (λ z apex. cocone.agrees object z below apex) in
      (factor.0 w, (λ x there is. ap factor.0 (sym is) ∙ factor.1 x there, λ y there is. ap factor.0 (sym is) ∙ factor.2 y there))) in
      let through_left = through_images C F.left H l d chosen.0 gluing.from_left.natural (λ object w below part. (chosen.1 object w below part).0) in
      let through_right = through_images C F.right H r s chosen.0 gluing.from_right.natural (λ object w below part. (chosen.1 object w below part).1) in (
        chosen.0,
        record {
          homomorphism = onward_homomorphism T d s cocone chosen.0 through_left through_right;
          from_left = through_left;
          from_right = through_right;
        },
      )

  -- two maps from the gluing that commute are one, since both sides cover it
  gluing_unique : (T : Instance) (d s u v : Map) → IsCocone C F T d s → IsMediating C F H l r T d s u → IsMediating C F H l r T d s v → SameOn C H u v
  gluing_unique T d s u v cocone first second object w below part =
      elim (gluing.covers object w below part) [
        | inl origin ↦ same_at_image C F.left l d u v first.from_left second.from_left object origin.0 w below origin.1 origin.2
        | inr origin ↦ same_at_image C F.right r s u v first.from_right second.from_right object origin.0 w below origin.1 origin.2
      ]

-- a gluing is an initial cocone
pub pushout_from_gluing : (C : Signature) → IsCategory C → (F : Frame) → IsInstance C F.left → IsInstance C F.right
    → (H : Instance) (l r : Map) → IsGluing C F H l r → IsInitialCocone C F H l r
pushout_from_gluing C category F left right H l r gluing = record {
  cocone = record {
    instance = gluing_instance C category F left right H l r gluing;
    from_left = gluing.from_left;
    from_right = gluing.from_right;
    agrees = gluing.agrees;
  };
  mediating = gluing_mediates C category F left right H l r gluing;
  unique = gluing_unique C category F left right H l r gluing;
}
