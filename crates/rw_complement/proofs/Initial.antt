-- What holds of every initial cocone: both sides cover it, and each of its atoms is that of a part of a side.
use Rattle.std.proofs.Common.{◌≡◌, ◌∙◌, ◌⊎◌, ◌==◌, ◌<◌, ◌&&◌, ◌||◌, ℕ, Bool, true, cond, filter, Some, None, slice_get, refl, sym, ap, subst, inl, inr, eqb-true}
use Rattle.std.specs.List.{list_any}
use Rattle.std.specs.Option.{is_some}
use Rattle.std.proofs.lemmas.Bool.{and_from, and_parts, cond-true, eq-eqb, or_cases, or_left, or_right}
use Rattle.rw_schema.specs.declared.atom.Atom.{Atom}
use Rattle.rw_schema.specs.declared.signature.ArrowEnds.{ArrowEnds}
use Rattle.rw_schema.specs.declared.signature.AttrEnds.{AttrEnds}
use Rattle.rw_schema.specs.Signature.{Signature, IsCategory, holder_of}
use Rattle.rw_spec.specs.Cocone.{Frame, IsCocone, IsMediating, IsInitialCocone}
use Rattle.rw_spec.specs.Homomorphism.{IsHomomorphism}
use Rattle.rw_spec.specs.Instance.{Instance, IsInstance, Has}
use Rattle.rw_spec.specs.Natural.{Map, SameOn}
use Rattle.rw_spec.proofs.Sequences.{contains_filter, contained_in_filter}
use Rattle.rw_spec.proofs.Signatures.{holder_is}
use Rattle.rw_universal.specs.Gluing.{From}
use Rattle.rw_complement.specs.Complement.{identity}
use Rattle.rw_complement.proofs.Tests.{some_from, some_at, there_is, shown, same_some}

-- some part of X goes to w
abbrev pub is_from : Instance → Map → ℕ → ℕ → Bool
is_from X f object w = list_any (λ x. f object x == w) (X.names object)

-- some part of X with an atom goes to w
abbrev pub has_atom_from : Instance → Map → ℕ → ℕ → ℕ → Bool
has_atom_from X f object c w = list_any (λ x. f object x == w && is_some (X.cell c x)) (X.names object)

-- the part is the image of a part of a side
abbrev pub is_covered : Frame → Map → Map → ℕ → ℕ → Bool
is_covered F l r object w = is_from F.left l object w || is_from F.right r object w

-- the part is the image of a part of a side that has an atom
abbrev pub has_atom : Frame → Map → Map → ℕ → ℕ → ℕ → Bool
has_atom F l r object c w = has_atom_from F.left l object c w || has_atom_from F.right r object c w

-- H without the parts and the atoms that come from no side
abbrev pub trimmed : Signature → Frame → Instance → Map → Map → Instance
trimmed C F H l r = record {
  names = λ object. filter (is_covered F l r object) (H.names object);
  value = H.value;
  cell = λ c w. cond (has_atom F l r (holder_of C c) c w) (H.cell c w) None;
}

-- the image of a part is one
from_part : (X : Instance) (f : Map) (object x : ℕ) → Has X object x → is_from X f object (f object x) ≡ true
from_part X f object x has = some_at (λ y. f object y == f object x) (X.names object) x has (eq-eqb (f object x) (f object x) refl)

-- the image of a part with an atom is one
atom_from_part : (X : Instance) (f : Map) (object c x : ℕ) (atom : Atom) → Has X object x → X.cell c x ≡ Some atom → has_atom_from X f object c (f object x) ≡ true
atom_from_part X f object c x atom has is =
    some_at (λ y. f object y == f object x && is_some (X.cell c y)) (X.names object) x has
    (and_from (f object x == f object x) (is_some (X.cell c x)) (eq-eqb (f object x) (f object x) refl) (ap is_some is))

-- a part of which some part is found to go to it is the image of a part
part_from : (X : Instance) (f : Map) (object w : ℕ) → is_from X f object w ≡ true → From X f (λ x. Unit {0}) object w
part_from X f object w some =
    let found = some_from (λ x. f object x == w) (X.names object) some in
    (found.0, found.1, eqb-true (f object found.0) w found.2, tt)

-- an atom of H at the image of a part with an atom is the atom of that part
atom_from : (C : Signature) (X H : Instance) (f : Map) → IsHomomorphism C X H f → (c : ℕ) (ends : AttrEnds) (w : ℕ) (atom : Atom) → slice_get C.attributes c ≡ Some ends
    → H.cell c w ≡ Some atom → has_atom_from X f ends.object.0 c w ≡ true → From X f (λ x. X.cell c x ≡ Some atom) ends.object.0 w
atom_from C X H f to_H c ends w atom there is some =
    let object : ℕ = ends.object.0 in
    let found = some_from (λ x. f object x == w && is_some (X.cell c x)) (X.names object) some in
    let both = and_parts (f object found.0 == w) (is_some (X.cell c found.0)) found.2 in
    let goes : f object found.0 ≡ w = eqb-true (f object found.0) w both.0 in
    let own : (a : Atom) × (X.cell c found.0 ≡ Some a) = there_is (X.cell c found.0) both.1 in
    let kept : H.cell c w ≡ Some own.0 = ap (H.cell c) (sym goes) ∙ to_H.keeps c ends found.0 own.0 there found.1 own.1 in
    let same : own.0 ≡ atom = same_some (H.cell c w) own.0 atom kept is in
    (found.0, found.1, goes, own.1 ∙ ap (λ (a : Atom). Some a) same)

module _ (C : Signature) (category : IsCategory C) (F : Frame) (left : IsInstance C F.left) (right : IsInstance C F.right)
    (H : Instance) (l r : Map) (initial : IsInitialCocone C F H l r)
  where
    -- the identity leads from H to itself
    self : IsMediating C F H l r H l r identity
    self = record {
      homomorphism = record {
        natural = record { parts = λ object w below has. has; commutes = λ a ends w there has. refl };
        keeps = λ c ends w atom there has is. is;
      };
      from_left = λ object x below has. refl;
      from_right = λ object y below has. refl;
    }

    -- a homomorphism from H to itself that commutes with the maps from both sides is the identity
    pub only_identity : (u : Map) → IsMediating C F H l r H l r u → SameOn C H u identity
    only_identity u mediating = initial.unique H l r u identity initial.cocone mediating self

    -- a part of the left side goes to one that stays
    left_inside : (object x : ℕ) → object < C.objects → Has F.left object x → Has (trimmed C F H l r) object (l object x)
    left_inside object x below has =
        contains_filter (is_covered F l r object) (H.names object) (l object x) (initial.cocone.from_left.natural.parts object x below has)
        (or_left (is_from F.left l object (l object x)) (is_from F.right r object (l object x)) (from_part F.left l object x has))

    -- and so does one of the right side
    right_inside : (object y : ℕ) → object < C.objects → Has F.right object y → Has (trimmed C F H l r) object (r object y)
    right_inside object y below has =
        contains_filter (is_covered F l r object) (H.names object) (r object y) (initial.cocone.from_right.natural.parts object y below has)
        (or_right (is_from F.left l object (r object y)) (is_from F.right r object (r object y)) (from_part F.right r object y has))

    -- an arrow leads from the image of a part to the image of a part
    value_inside : (X : Instance) (f : Map) → IsInstance C X → IsHomomorphism C X H f
        → ((object x : ℕ) → object < C.objects → Has X object x → Has (trimmed C F H l r) object (f object x))
        → (a : ℕ) (ends : ArrowEnds) (w : ℕ) → slice_get C.arrows a ≡ Some ends → From X f (λ x. Unit {0}) ends.source.0 w
        → Has (trimmed C F H l r) ends.target.0 (H.value a w)
    value_inside X f instance to_H inside a ends w there origin =
        subst (λ (v : ℕ). Has (trimmed C F H l r) ends.target.0 v)
        (to_H.natural.commutes a ends origin.0 there origin.1 ∙ ap (H.value a) origin.2)
        (inside ends.target.0 (X.value a origin.0) (category.targets a ends there) (instance.values a ends origin.0 there origin.1))

    -- what stays is an instance
    trimmed_instance : IsInstance C (trimmed C F H l r)
    trimmed_instance = record {
      values = λ a ends w there has.
          let object : ℕ = ends.source.0 in
          let both = contained_in_filter (is_covered F l r object) (H.names object) w has in
          elim (or_cases (is_from F.left l object w) (is_from F.right r object w) both.1) [
            | inl some ↦ value_inside F.left l left initial.cocone.from_left left_inside a ends w there (part_from F.left l object w some)
            | inr some ↦ value_inside F.right r right initial.cocone.from_right right_inside a ends w there (part_from F.right r object w some)
          ];
      atoms = λ c ends w atom there has is.
          let both = contained_in_filter (is_covered F l r ends.object.0) (H.names ends.object.0) w has in
          initial.cocone.instance.atoms c ends w atom there both.0 (shown (has_atom F l r (holder_of C c) c w) (H.cell c w) atom is).1;
      equations = λ e equation w there has.
          let both = contained_in_filter (is_covered F l r equation.object.0) (H.names equation.object.0) w has in
          initial.cocone.instance.equations e equation w there both.0;
    }

    -- the atom of a part that has one stays
    atom_stays : (c : ℕ) (ends : AttrEnds) (w : ℕ) (atom : Atom) → slice_get C.attributes c ≡ Some ends → H.cell c w ≡ Some atom
        → has_atom F l r ends.object.0 c w ≡ true → (trimmed C F H l r).cell c w ≡ Some atom
    atom_stays c ends w atom there is some =
        let passes : has_atom F l r (holder_of C c) c w ≡ true = subst (λ (object : ℕ). has_atom F l r object c w ≡ true) (sym (holder_is C c ends there)) some in
        cond-true (has_atom F l r (holder_of C c) c w) (H.cell c w) None passes ∙ is

    -- what stays is a cocone
    trimmed_cocone : IsCocone C F (trimmed C F H l r) l r
    trimmed_cocone = record {
      instance = trimmed_instance;
      from_left = record {
        natural = record { parts = left_inside; commutes = initial.cocone.from_left.natural.commutes };
        keeps = λ c ends x atom there has is.
            let object : ℕ = ends.object.0 in
            atom_stays c ends (l object x) atom there (initial.cocone.from_left.keeps c ends x atom there has is)
            (or_left (has_atom_from F.left l object c (l object x)) (has_atom_from F.right r object c (l object x)) (atom_from_part F.left l object c x atom has is));
      };
      from_right = record {
        natural = record { parts = right_inside; commutes = initial.cocone.from_right.natural.commutes };
        keeps = λ c ends y atom there has is.
            let object : ℕ = ends.object.0 in
            atom_stays c ends (r object y) atom there (initial.cocone.from_right.keeps c ends y atom there has is)
            (or_right (has_atom_from F.left l object c (r object y)) (has_atom_from F.right r object c (r object y)) (atom_from_part F.right r object c y atom has is));
      };
      agrees = initial.cocone.agrees;
    }

    -- the homomorphism from H to what stays
    inward : (u : Map) × IsMediating C F H l r (trimmed C F H l r) l r u
    inward = initial.mediating (trimmed C F H l r) l r trimmed_cocone

    -- it moves nothing
    inward_fixed : SameOn C H inward.0 identity
    inward_fixed =
        let u : Map = inward.0 in
        let to = inward.1 in
        only_identity u (record {
          homomorphism = record {
            natural = record {
              parts = λ object w below has.
                  (contained_in_filter (is_covered F l r object) (H.names object) (u object w) (to.homomorphism.natural.parts object w below has)).0;
              commutes = to.homomorphism.natural.commutes;
            };
            keeps = λ c ends w atom there has is.
                let image : ℕ = u ends.object.0 w in
                (shown (has_atom F l r (holder_of C c) c image) (H.cell c image) atom (to.homomorphism.keeps c ends w atom there has is)).1;
          };
          from_left = to.from_left;
          from_right = to.from_right;
        })

    -- each part of H is the image of a part of a side
    pub covers : (object w : ℕ) → object < C.objects → Has H object w → From F.left l (λ x. Unit {0}) object w ⊎ From F.right r (λ y. Unit {0}) object w
    covers object w below has =
        let inside : Has (trimmed C F H l r) object w =
        subst (λ (v : ℕ). Has (trimmed C F H l r) object v) (inward_fixed object w below has) (inward.1.homomorphism.natural.parts object w below has) in
        elim (or_cases (is_from F.left l object w) (is_from F.right r object w) (contained_in_filter (is_covered F l r object) (H.names object) w inside).1) [
          | inl some ↦ inl (part_from F.left l object w some)
          | inr some ↦ inr (part_from F.right r object w some)
        ]

    -- each atom of H is that of a part of a side
    pub atoms_from : (c : ℕ) (ends : AttrEnds) (w : ℕ) (atom : Atom) → slice_get C.attributes c ≡ Some ends → Has H ends.object.0 w → H.cell c w ≡ Some atom
        → From F.left l (λ x. F.left.cell c x ≡ Some atom) ends.object.0 w ⊎ From F.right r (λ y. F.right.cell c y ≡ Some atom) ends.object.0 w
    atoms_from c ends w atom there has is =
        let object : ℕ = ends.object.0 in
        let kept : (trimmed C F H l r).cell c w ≡ Some atom =
        ap ((trimmed C F H l r).cell c) (sym (inward_fixed object w (category.holders c ends there) has)) ∙ inward.1.homomorphism.keeps c ends w atom there has is in
        let passes : has_atom F l r object c w ≡ true =
        subst (λ (object : ℕ). has_atom F l r object c w ≡ true) (holder_is C c ends there) (shown (has_atom F l r (holder_of C c) c w) (H.cell c w) atom kept).0 in
        elim (or_cases (has_atom_from F.left l object c w) (has_atom_from F.right r object c w) passes) [
          | inl some ↦ inl (atom_from C F.left H l initial.cocone.from_left c ends w atom there is some)
          | inr some ↦ inr (atom_from C F.right H r initial.cocone.from_right c ends w atom there is some)
        ]
