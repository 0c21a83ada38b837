-- The context is the least complement, and the only least one under names of the host.
use Rattle.std.proofs.Common.{◌≡◌, ◌∙◌, ◌==◌, ◌<◌, ◌||◌, ℕ, false, not, Some, slice_get, sym, ap, subst, inl, inr, eqb-true}
use Rattle.std.specs.Option.{is_none}
use Rattle.std.proofs.lemmas.Bool.{and_cases, both_ways, eq-eqb, not-false, or_parts}
use Rattle.rw_schema.specs.declared.atom.Atom.{Atom}
use Rattle.rw_schema.specs.declared.signature.AttrEnds.{AttrEnds}
use Rattle.rw_schema.specs.Signature.{Signature, IsCategory, holder_of}
use Rattle.rw_spec.specs.Instance.{Instance, Has}
use Rattle.rw_spec.specs.Natural.{Map, SameOn}
use Rattle.rw_spec.specs.Redex.{Redex}
use Rattle.rw_spec.specs.Same.{AreSame}
use Rattle.rw_spec.proofs.Signatures.{holder_is}
use Rattle.rw_universal.proofs.Choice.{choose}
use Rattle.rw_complement.specs.Complement.{IsComplement, IsBetween, IsContext, left_frame, identity}
use Rattle.rw_complement.specs.Context.{context_of, context_map, is_blanked, is_blank_over, is_under}
use Rattle.rw_complement.specs.Redex.{IsRedex, CanBeGlued}
use Rattle.rw_complement.proofs.Apart.{can_be_glued, complement_injective, shared}
use Rattle.rw_complement.proofs.Complement.{context_is_complement}
use Rattle.rw_complement.proofs.Initial.{covers, atoms_from}
use Rattle.rw_complement.proofs.Parts.{kept_or_not, from_context}
use Rattle.rw_complement.proofs.Tests.{some_at, not_hidden, fails_at, not_none, same_some, same_answer}

module _ (C : Signature) (category : IsCategory C) (R : Redex) (redex : IsRedex C R) where
  module _ (D : Instance) (k e : Map) (complement : IsComplement C R D k e) where
    -- the context is a complement, since there is one
    context_complement : IsComplement C R (context_of C R) (context_map R) identity
    context_complement = context_is_complement C category R redex (can_be_glued C category R redex D k e complement)

    -- a part of the complement goes to each name of the context
    over : (object w : ℕ) → object < C.objects → Has (context_of C R) object w → (x : ℕ) × Has D object x × (e object x ≡ w)
    over object w below has =
        let known = from_context C R object w has in
        elim (covers C category (left_frame R D k) complement.instance redex.left R.host e R.m complement.pushout object w below known.0) [
          | inl (x, has_x, is, done) ↦ (x, has_x, is)
          | inr (y, has_y, is, done) ↦
              elim (kept_or_not R object y) [
                | inl (z, has_z, goes) ↦ (
                  k object z,
                  complement.from_keep.natural.parts object z below has_z,
                  complement.pushout.cocone.agrees object z below has_z ∙ ap (R.m object) goes ∙ is,
                )
                | inr out ↦ absurd (known.1 (y, has_y, is, out))
              ]
        ]

    -- the part x of the complement goes to the name
    abbrev pub GoesTo : ℕ → ℕ → ℕ → Type 0
    GoesTo object w x = Has D object x × (e object x ≡ w)

    -- of each name that part
    chosen : (u : Map) × ((object w : ℕ) → object < C.objects → Has (context_of C R) object w → GoesTo object w (u object w))
    chosen = choose C.objects (context_of C R).names GoesTo (λ object w below has. let part = over object w below has in (part.0, (part.1, part.2)))

    -- a part that goes to the name is that part
    is_chosen : (object w x : ℕ) → object < C.objects → Has (context_of C R) object w → Has D object x → e object x ≡ w → x ≡ chosen.0 object w
    is_chosen object w x below has has_x is =
        let own = chosen.1 object w below has in
        complement_injective C category R redex D k e complement object x (chosen.0 object w) below has_x own.0 (is ∙ sym own.1)

    -- where an atom of the context is that of a name of keep, the complement has it
    atom_under : (c : ℕ) (ends : AttrEnds) (w z : ℕ) (atom : Atom) → slice_get C.attributes c ≡ Some ends → Has (context_of C R) ends.object.0 w
        → is_blanked R ends.object.0 c w ≡ false → R.host.cell c w ≡ Some atom → Has R.keep ends.object.0 z → R.m ends.object.0 (R.l ends.object.0 z) ≡ w
        → D.cell c (chosen.0 ends.object.0 w) ≡ Some atom
    atom_under c ends w z atom there has shows is has_z goes =
        let object : ℕ = ends.object.0 in
        let below : object < C.objects = category.holders c ends there in
        elim (and_cases (is_under R object w) (is_blank_over R object c w) shows) [
          | inl outside ↦
              absurd (both_ways (is_under R object w) outside
              (some_at (λ z. R.m object (R.l object z) == w) (R.keep.names object) z has_z (eq-eqb (R.m object (R.l object z)) w goes)))
          | inr some ↦
              let found = fails_at (λ z. not (R.m object (R.l object z) == w) || is_none (R.keep.cell c z)) (R.keep.names object) some in
              let both = or_parts (not (R.m object (R.l object found.0) == w)) (is_none (R.keep.cell c found.0)) found.2 in
              let over_w : R.m object (R.l object found.0) ≡ w = eqb-true (R.m object (R.l object found.0)) w (not-false (R.m object (R.l object found.0) == w) both.0) in
              let own = not_none (R.keep.cell c found.0) both.1 in
              let x : ℕ = k object found.0 in
              let has_x : Has D object x = complement.from_keep.natural.parts object found.0 below found.1 in
              let goes_x : e object x ≡ w = complement.pushout.cocone.agrees object found.0 below found.1 ∙ over_w in
              let own_x : D.cell c x ≡ Some own.0 = complement.from_keep.keeps c ends found.0 own.0 there found.1 own.1 in
              let own_w : R.host.cell c w ≡ Some own.0 = ap (R.host.cell c) (sym goes_x) ∙ complement.pushout.cocone.from_left.keeps c ends x own.0 there has_x own_x in
              let same : own.0 ≡ atom = same_some (R.host.cell c w) own.0 atom own_w is in
              ap (D.cell c) (sym (is_chosen object w x below has has_x goes_x)) ∙ own_x ∙ ap (λ (a : Atom). Some a) same
        ]

    -- the complement has each atom of the context
    atom_there : (c : ℕ) (ends : AttrEnds) (w : ℕ) (atom : Atom) → slice_get C.attributes c ≡ Some ends → Has (context_of C R) ends.object.0 w
        → (context_of C R).cell c w ≡ Some atom → D.cell c (chosen.0 ends.object.0 w) ≡ Some atom
    atom_there c ends w atom there has is =
        let object : ℕ = ends.object.0 in
        let below : object < C.objects = category.holders c ends there in
        let known = not_hidden (is_blanked R (holder_of C c) c w) (R.host.cell c w) atom is in
        let shows : is_blanked R object c w ≡ false = subst (λ (object : ℕ). is_blanked R object c w ≡ false) (holder_is C c ends there) known.0 in
        let own = chosen.1 object w below has in
        elim (atoms_from C category (left_frame R D k) complement.instance redex.left R.host e R.m complement.pushout c ends w atom there (from_context C R object w has).0 known.1) [
          | inl (x, has_x, goes, atom_x) ↦ ap (D.cell c) (sym (is_chosen object w x below has has_x goes)) ∙ atom_x
          | inr (y, has_y, goes, atom_y) ↦
              let from = shared C category R redex D k e complement object (chosen.0 object w) y below own.0 has_y (own.1 ∙ sym goes) in
              atom_under c ends w from.0 atom there has shows known.1 from.1 (ap (R.m object) from.2 ∙ goes)
        ]

    -- the context leads to the complement
    context_between : IsBetween C R (context_of C R) (context_map R) identity D k e chosen.0
    context_between = record {
      homomorphism = record {
        natural = record {
          parts = λ object w below has. (chosen.1 object w below has).0;
          commutes = λ a ends w there has.
              let source : ℕ = ends.source.0 in
              let target : ℕ = ends.target.0 in
              let own = chosen.1 source w (category.sources a ends there) has in
              sym (is_chosen target (R.host.value a w) (D.value a (chosen.0 source w)) (category.targets a ends there)
              (context_complement.instance.values a ends w there has) (complement.instance.values a ends (chosen.0 source w) there own.0)
              (complement.pushout.cocone.from_left.natural.commutes a ends (chosen.0 source w) there own.0 ∙ ap (R.host.value a) own.1));
        };
        keeps = atom_there;
      };
      from_keep = λ object z below has.
          sym (is_chosen object (R.m object (R.l object z)) (k object z) below (context_complement.from_keep.natural.parts object z below has)
          (complement.from_keep.natural.parts object z below has) (complement.pushout.cocone.agrees object z below has));
      to_host = λ object w below has. (chosen.1 object w below has).1;
    }

    -- two homomorphisms to a complement that agree with the maps to the host are one
    pub between_unique : (X : Instance) (f g : Map) (u v : Map) → IsBetween C R X f g D k e u → IsBetween C R X f g D k e v → SameOn C X u v
    between_unique X f g u v first second object x below has =
        complement_injective C category R redex D k e complement object (u object x) (v object x) below
        (first.homomorphism.natural.parts object x below has) (second.homomorphism.natural.parts object x below has)
        (first.to_host object x below has ∙ sym (second.to_host object x below has))

  -- where the gluing condition holds, the context is the least complement
  pub context_is_least : CanBeGlued C R → IsContext C R (context_of C R) (context_map R)
  context_is_least can = record {
    complement = context_is_complement C category R redex can;
    least = λ D k e complement. ((chosen D k e complement).0, context_between D k e complement);
    unique = λ D k e u v complement first second. between_unique D k e complement (context_of C R) (context_map R) identity u v first second;
  }

-- a homomorphism between complements under names of the host moves no name
stays_named : (C : Signature) (R : Redex) (D D' : Instance) (k k' u : Map) → IsBetween C R D k identity D' k' identity u
    → (object w : ℕ) → object < C.objects → Has D object w → Has D' object w
stays_named C R D D' k k' u between object w below has =
    subst (Has D' object) (between.to_host object w below has) (between.homomorphism.natural.parts object w below has)

-- and keeps the atoms at it
keeps_named : (C : Signature) → IsCategory C → (R : Redex) (D D' : Instance) (k k' u : Map) → IsBetween C R D k identity D' k' identity u
    → (c : ℕ) (ends : AttrEnds) (w : ℕ) (atom : Atom) → slice_get C.attributes c ≡ Some ends → Has D ends.object.0 w → D.cell c w ≡ Some atom → D'.cell c w ≡ Some atom
keeps_named C category R D D' k k' u between c ends w atom there has is =
    ap (D'.cell c) (sym (between.to_host ends.object.0 w (category.holders c ends there) has)) ∙ between.homomorphism.keeps c ends w atom there has is

-- there is only one least complement under names of the host
pub only_context : (C : Signature) → IsCategory C → (R : Redex) (D D' : Instance) (k k' : Map) → IsContext C R D k → IsContext C R D' k'
    → AreSame C D D' × SameOn C R.keep k k'
only_context C category R D D' k k' first second =
    let onward = first.least D' k' identity second.complement in
    let back = second.least D k identity first.complement in (
      record {
        names = λ object w below.
            (λ has. stays_named C R D D' k k' onward.0 onward.1 object w below has, λ has. stays_named C R D' D k' k back.0 back.1 object w below has);
        values = λ a ends w there has.
            first.complement.pushout.cocone.from_left.natural.commutes a ends w there has
            ∙ sym (second.complement.pushout.cocone.from_left.natural.commutes a ends w there
            (stays_named C R D D' k k' onward.0 onward.1 ends.source.0 w (category.sources a ends there) has));
        cells = λ c ends w there has.
            same_answer (D.cell c w) (D'.cell c w)
            (λ atom is. keeps_named C category R D D' k k' onward.0 onward.1 c ends w atom there has is)
            (λ atom is. keeps_named C category R D' D k' k back.0 back.1 c ends w atom there
            (stays_named C R D D' k k' onward.0 onward.1 ends.object.0 w (category.holders c ends there) has) is);
      },
      (λ object z below has.
          first.complement.pushout.cocone.agrees object z below has ∙ sym (second.complement.pushout.cocone.agrees object z below has)),
    )
