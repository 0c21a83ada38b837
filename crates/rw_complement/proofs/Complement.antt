-- Where the gluing condition holds, the host without the parts that are removed is a complement.
use Rattle.std.proofs.Common.{◌≡◌, ◌∙◌, ◌<◌, ℕ, Some, None, slice_get, refl, sym, ap, subst, inl, inr}
use Rattle.std.proofs.lemmas.Bool.{and_parts, cases_Bool, cond-false}
use Rattle.rw_schema.specs.declared.atom.Atom.{Atom}
use Rattle.rw_schema.specs.declared.signature.ArrowEnds.{ArrowEnds}
use Rattle.rw_schema.specs.declared.signature.AttrEnds.{AttrEnds}
use Rattle.rw_schema.specs.Signature.{Signature, IsCategory, holder_of}
use Rattle.rw_spec.specs.Homomorphism.{IsHomomorphism}
use Rattle.rw_spec.specs.Instance.{IsInstance, Has}
use Rattle.rw_spec.specs.Redex.{Redex}
use Rattle.rw_universal.specs.Gluing.{IsGluing}
use Rattle.rw_universal.proofs.Choice.{choose}
use Rattle.rw_universal.proofs.Gluing.{pushout_from_gluing}
use Rattle.rw_complement.specs.Complement.{IsComplement, left_frame, identity}
use Rattle.rw_complement.specs.Context.{context_of, context_map, is_blanked, is_blank_over, is_under}
use Rattle.rw_complement.specs.Redex.{IsRedex, CanBeGlued, IsRemoved}
use Rattle.rw_complement.proofs.Parts.{kept_or_not, removed_or_not, in_context, from_context, context_cell, not_blanked, under_from}
use Rattle.rw_complement.proofs.Tests.{not_hidden}

module _ (C : Signature) (category : IsCategory C) (R : Redex) (redex : IsRedex C R) (can : CanBeGlued C R) where
  -- the name of a part of keep is not removed
  kept_stays : (object z : ℕ) → object < C.objects → Has R.keep object z → IsRemoved R object (R.m object (R.l object z)) → ⊥
  kept_stays object z below has (y, has_y, is, out) =
      elim (can.identification object y (R.l object z) below has_y (redex.l.natural.parts object z below has) is) [
        | inl same ↦ out (z, has, sym same)
        | inr both ↦ out both.0
      ]

  -- an arrow leads from a name that is not removed to one that is not
  value_stays : (a : ℕ) (ends : ArrowEnds) (w : ℕ) → slice_get C.arrows a ≡ Some ends → Has (context_of C R) ends.source.0 w
      → Has (context_of C R) ends.target.0 (R.host.value a w)
  value_stays a ends w there has =
      let source : ℕ = ends.source.0 in
      let target : ℕ = ends.target.0 in
      let known = from_context C R source w has in
      in_context C R target (R.host.value a w) (redex.host.values a ends w there known.0) (λ removed.
      let matched = can.dangling a ends w there known.0 removed in
      elim (kept_or_not R source matched.0) [
        | inr out ↦ known.1 (matched.0, matched.1, matched.2, out)
        | inl kept ↦
            let z : ℕ = kept.0 in
            let leads : R.m target (R.l target (R.keep.value a z)) ≡ R.host.value a w =
            ap (R.m target) (redex.l.natural.commutes a ends z there kept.1)
            ∙ ap (λ (y : ℕ). R.m target (R.left.value a y)) kept.2
            ∙ redex.m.commutes a ends matched.0 there matched.1
            ∙ ap (R.host.value a) matched.2 in
            kept_stays target (R.keep.value a z) (category.targets a ends there) (redex.keep.values a ends z there kept.1)
            (subst (IsRemoved R target) (sym leads) removed)
      ])

  -- an atom of the context is the host's
  host_atom : (c w : ℕ) (atom : Atom) → (context_of C R).cell c w ≡ Some atom → R.host.cell c w ≡ Some atom
  host_atom c w atom is = (not_hidden (is_blanked R (holder_of C c) c w) (R.host.cell c w) atom is).1

  -- the context is an instance
  context_instance : IsInstance C (context_of C R)
  context_instance = record {
    values = value_stays;
    atoms = λ c ends w atom there has is. redex.host.atoms c ends w atom there (from_context C R ends.object.0 w has).0 (host_atom c w atom is);
    equations = λ e equation w there has. redex.host.equations e equation w there (from_context C R equation.object.0 w has).0;
  }

  -- the host has the atom of a part of left
  left_atom : (c : ℕ) (ends : AttrEnds) (y : ℕ) (atom : Atom) → slice_get C.attributes c ≡ Some ends → Has R.left ends.object.0 y
      → R.left.cell c y ≡ Some atom → R.host.cell c (R.m ends.object.0 y) ≡ Some atom
  left_atom c ends y atom there has is = sym (redex.cells c ends y there has) ∙ is

  -- keep is in the context
  keep_homomorphism : IsHomomorphism C R.keep (context_of C R) (context_map R)
  keep_homomorphism = record {
    natural = record {
      parts = λ object z below has.
          in_context C R object (R.m object (R.l object z)) (redex.m.parts object (R.l object z) below (redex.l.natural.parts object z below has))
          (kept_stays object z below has);
      commutes = λ a ends z there has.
          ap (R.m ends.target.0) (redex.l.natural.commutes a ends z there has)
          ∙ redex.m.commutes a ends (R.l ends.source.0 z) there (redex.l.natural.parts ends.source.0 z (category.sources a ends there) has);
    };
    keeps = λ c ends z atom there has is.
        let object : ℕ = ends.object.0 in
        let w : ℕ = R.m object (R.l object z) in
        context_cell C R c ends w there
        ∙ cond-false (is_blanked R object c w) None (R.host.cell c w) (not_blanked R object c z atom has is)
        ∙ left_atom c ends (R.l object z) atom there (redex.l.natural.parts object z (category.holders c ends there) has) (redex.l.keeps c ends z atom there has is);
  }

  -- what d says of the context and s of left, at the images of the part w
  abbrev pub SaysOf : ℕ → (ℕ → ℕ) → (ℕ → ℕ) → ℕ → ℕ → Type 0
  SaysOf object d s w v = ((x : ℕ) → Has (context_of C R) object x → x ≡ w → v ≡ d x) × ((y : ℕ) → Has R.left object y → R.m object y ≡ w → v ≡ s y)

  -- where d and s agree on keep there is such a number
  says : (object : ℕ) (d s : ℕ → ℕ) (w : ℕ) → object < C.objects
      → ((z : ℕ) → Has R.keep object z → d (R.m object (R.l object z)) ≡ s (R.l object z)) → (v : ℕ) × SaysOf object d s w v
  says object d s w below agree =
      elim (removed_or_not R object w) [
        | inl removed ↦ (
          s removed.0,
          (
            (λ x has is. absurd ((from_context C R object x has).1 (subst (IsRemoved R object) (sym is) removed))),
            (λ y has is.
                elim (can.identification object removed.0 y below removed.1 has (removed.2 ∙ sym is)) [
                  | inl same ↦ ap s same
                  | inr both ↦ absurd (removed.3 both.0)
                ]),
          ),
        )
        | inr stays ↦ (
          d w,
          (
            (λ x has is. ap d (sym is)),
            (λ y has is.
                elim (kept_or_not R object y) [
                  | inr out ↦ absurd (stays (y, has, is, out))
                  | inl kept ↦ ap d (sym is) ∙ ap (λ (y : ℕ). d (R.m object y)) (sym kept.2) ∙ agree kept.0 kept.1 ∙ ap s kept.2
                ]),
          ),
        )
      ]

  -- the host is the context and left, glued along keep
  host_gluing : IsGluing C (left_frame R (context_of C R) (context_map R)) R.host identity R.m
  host_gluing = record {
    values = redex.host.values;
    from_left = record {
      natural = record { parts = λ object w below has. (from_context C R object w has).0; commutes = λ a ends w there has. refl };
      keeps = λ c ends w atom there has is. host_atom c w atom is;
    };
    from_right = record { natural = redex.m; keeps = left_atom };
    agrees = λ object z below has. refl;
    covers = λ object w below has.
        elim (removed_or_not R object w) [
          | inl removed ↦ inr (removed.0, removed.1, removed.2, tt)
          | inr stays ↦ inl (w, in_context C R object w has stays, refl, tt)
        ];
    finest = λ object d s below agree.
        let chosen = choose C.objects (λ other. R.host.names object) (λ other w v. SaysOf object d s w v) (λ other w known has. says object d s w below agree) in (
          chosen.0 object,
          (λ x has. (chosen.1 object x below (from_context C R object x has).0).0 x has refl),
          (λ y has. (chosen.1 object (R.m object y) below (redex.m.parts object y below has)).1 y has refl),
        );
    cells = λ c ends w atom there has is.
        let object : ℕ = ends.object.0 in
        elim (removed_or_not R object w) [
          | inl removed ↦ inr (removed.0, removed.1, removed.2, redex.cells c ends removed.0 there removed.1 ∙ ap (R.host.cell c) removed.2 ∙ is)
          | inr stays ↦
              elim (cases_Bool (is_blanked R object c w)) [
                | inl blanked ↦
                    let under = under_from R object w (and_parts (is_under R object w) (is_blank_over R object c w) blanked).0 in
                    let has_y : Has R.left object (R.l object under.0) = redex.l.natural.parts object under.0 (category.holders c ends there) under.1 in
                    inr (R.l object under.0, has_y, under.2, redex.cells c ends (R.l object under.0) there has_y ∙ ap (R.host.cell c) under.2 ∙ is)
                | inr shows ↦
                    inl (
                      w,
                      in_context C R object w has stays,
                      refl,
                      context_cell C R c ends w there ∙ cond-false (is_blanked R object c w) None (R.host.cell c w) shows ∙ is,
                    )
              ]
        ];
  }

  -- the context is a complement
  pub context_is_complement : IsComplement C R (context_of C R) (context_map R) identity
  context_is_complement = record {
    instance = context_instance;
    from_keep = keep_homomorphism;
    pushout = pushout_from_gluing C category (left_frame R (context_of C R) (context_map R)) context_instance redex.left R.host identity R.m host_gluing;
  }
