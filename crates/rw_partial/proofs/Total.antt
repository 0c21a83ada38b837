-- An initial partial cocone is an initial cocone over the frame of its pair.
use Rattle.std.proofs.Common.{◌≡◌, ◌∙◌, ◌<◌, ℕ, true, cond, Some, None, slice_get, refl, sym, ap}
use Rattle.rw_schema.specs.declared.atom.Atom.{Atom}
use Rattle.rw_schema.specs.declared.signature.AttrEnds.{AttrEnds}
use Rattle.rw_schema.specs.Signature.{Signature, IsCategory}
use Rattle.rw_spec.specs.Cocone.{IsMediating, IsInitialCocone}
use Rattle.rw_spec.specs.Instance.{Instance, Has}
use Rattle.rw_spec.specs.Natural.{Map}
use Rattle.rw_partial.specs.SubInstance.{Elements, restricted}
use Rattle.rw_partial.specs.SinglePushout.{Applied, IsPartialCocone, IsMediatingPartial, AreSamePartial, IsInitialPartialCocone, frame_of_pair, IsApplied}
use Rattle.rw_partial.proofs.SubInstances.{has_restricted, restricted_has, restricted_atom, sub_instance}
use Rattle.rw_partial.proofs.Partial.{cocone_of_pair}

-- all elements
abbrev pub everything : Elements
everything = record { part = λ object x. true; cell = λ c x. true }

-- each part goes to itself
abbrev pub itself : Map
itself object x = x

module _ (C : Signature) (category : IsCategory C) (S : Applied) (applied : IsApplied C S) (D R : Elements) (H : Instance) (i j : Map) (initial : IsInitialPartialCocone C S D R H i j) where
  -- a homomorphism that mediates is a partial one, with all elements as its domain
  total_mediates : (T : Instance) (d s u : Map) → IsMediating C (frame_of_pair S D R) H i j T d s u → IsMediatingPartial C S D R H i j D R T d s everything u
  total_mediates T d s u mediates = record {
    partial = record {
      domain = record { values = λ a ends x there part in_set. refl; holders = λ c ends x there part in_set. refl };
      homomorphism = record {
        natural = record {
          parts = λ object x below part. mediates.homomorphism.natural.parts object x below (restricted_has H everything object x part).0;
          commutes = λ a ends x there part. mediates.homomorphism.natural.commutes a ends x there (restricted_has H everything ends.source.0 x part).0;
        };
        keeps = λ c ends x atom there part is. mediates.homomorphism.keeps c ends x atom there (restricted_has H everything ends.object.0 x part).0 is;
      };
    };
    host_parts = λ object x below part. ((λ in_set. (in_set, refl)), (λ both. both.0));
    host_cells = λ c ends x there part. ((λ in_set. (in_set, refl)), (λ both. both.0));
    right_parts = λ object y below part. ((λ in_set. (in_set, refl)), (λ both. both.0));
    right_cells = λ c ends y there part. ((λ in_set. (in_set, refl)), (λ both. both.0));
    from_host = λ object x below part in_set. mediates.from_left object x below (has_restricted S.host D object x part in_set);
    from_right = λ object y below part in_set. mediates.from_right object y below (has_restricted S.right R object y part in_set);
  }

  -- H itself
  itself_mediates : IsMediating C (frame_of_pair S D R) H i j H i j itself
  itself_mediates = record {
    homomorphism = record { natural = record { parts = λ object x below part. part; commutes = λ a ends x there part. refl }; keeps = λ c ends x atom there part is. is };
    from_left = λ object x below part. refl;
    from_right = λ object y below part. refl;
  }

  module _ (T : Instance) (d s : Map) (cocone : IsPartialCocone C S D R T d s) (U : Elements) (u : Map) (mediates : IsMediatingPartial C S D R H i j D R T d s U u) where
    -- the domain is a partial cocone too
    domain_cocone : IsPartialCocone C S D R (restricted H U) i j
    domain_cocone = record {
      instance = sub_instance C category H U initial.cocone.instance mediates.partial.domain;
      fits = initial.cocone.fits;
      from_host = record {
        natural = record {
          parts = λ object x below part.
              let own = restricted_has S.host D object x part in
              has_restricted H U object (i object x) (initial.cocone.from_host.natural.parts object x below part) ((mediates.host_parts object x below own.0).0 own.1).1;
          commutes = λ a ends x there part. initial.cocone.from_host.natural.commutes a ends x there part;
        };
        keeps = λ c ends x atom there part is.
            let own = restricted_has S.host D ends.object.0 x part in
            let in_cell = (restricted_atom (D.cell c x) (S.host.cell c x) atom is).0 in
            rw ((mediates.host_cells c ends x there own.0).0 in_cell).1 (initial.cocone.from_host.keeps c ends x atom there part is);
      };
      from_right = record {
        natural = record {
          parts = λ object y below part.
              let own = restricted_has S.right R object y part in
              has_restricted H U object (j object y) (initial.cocone.from_right.natural.parts object y below part) ((mediates.right_parts object y below own.0).0 own.1).1;
          commutes = λ a ends y there part. initial.cocone.from_right.natural.commutes a ends y there part;
        };
        keeps = λ c ends y atom there part is.
            let own = restricted_has S.right R ends.object.0 y part in
            let in_cell = (restricted_atom (R.cell c y) (S.right.cell c y) atom is).0 in
            rw ((mediates.right_cells c ends y there own.0).0 in_cell).1 (initial.cocone.from_right.keeps c ends y atom there part is);
      };
      agrees = initial.cocone.agrees;
    }

    -- a partial homomorphism to the domain is one to H
    module _ (W : Elements) (w : Map) (into : IsMediatingPartial C S D R H i j D R (restricted H U) i j W w) where
      included : IsMediatingPartial C S D R H i j D R H i j W w
      included = record {
        partial = record {
          domain = into.partial.domain;
          homomorphism = record {
            natural = record {
              parts = λ object x below part. (restricted_has H U object (w object x) (into.partial.homomorphism.natural.parts object x below part)).0;
              commutes = λ a ends x there part. into.partial.homomorphism.natural.commutes a ends x there part;
            };
            keeps = λ c ends x atom there part is.
                (restricted_atom (U.cell c (w ends.object.0 x)) (H.cell c (w ends.object.0 x)) atom (into.partial.homomorphism.keeps c ends x atom there part is)).1;
          };
        };
        host_parts = into.host_parts;
        host_cells = into.host_cells;
        right_parts = into.right_parts;
        right_cells = into.right_cells;
        from_host = into.from_host;
        from_right = into.from_right;
      }

      same : AreSamePartial C H everything itself W w
      same = initial.unique D R H i j everything itself W w initial.cocone (total_mediates H i j itself itself_mediates) included

      all_parts : (object x : ℕ) → object < C.objects → Has H object x → U.part object x ≡ true
      all_parts object x below part =
          let in_w : W.part object x ≡ true = sym (same.domain.parts object x below part) in
          let there = into.partial.homomorphism.natural.parts object x below (has_restricted H W object x part in_w) in
          ap (U.part object) (same.values object x below part refl) ∙ (restricted_has H U object (w object x) there).1

      all_atoms : (c : ℕ) (ends : AttrEnds) (x : ℕ) (atom : Atom) → slice_get C.attributes c ≡ Some ends → Has H ends.object.0 x → H.cell c x ≡ Some atom → U.cell c x ≡ true
      all_atoms c ends x atom there part is =
          let below = category.holders c ends there in
          let in_w : W.part ends.object.0 x ≡ true = sym (same.domain.parts ends.object.0 x below part) in
          let in_cell : W.cell c x ≡ true = sym (same.domain.cells c ends x there part) in
          let kept : cond (U.cell c (w ends.object.0 x)) (H.cell c (w ends.object.0 x)) None ≡ Some atom =
          into.partial.homomorphism.keeps c ends x atom there (has_restricted H W ends.object.0 x part in_w) (rw in_cell is) in
          ap (U.cell c) (same.values ends.object.0 x below part refl) ∙ (restricted_atom (U.cell c (w ends.object.0 x)) (H.cell c (w ends.object.0 x)) atom kept).0

      total : IsMediating C (frame_of_pair S D R) H i j T d s u
      total = record {
        homomorphism = record {
          natural = record {
            parts = λ object x below part. mediates.partial.homomorphism.natural.parts object x below (has_restricted H U object x part (all_parts object x below part));
            commutes = λ a ends x there part.
                mediates.partial.homomorphism.natural.commutes a ends x there (has_restricted H U ends.source.0 x part (all_parts ends.source.0 x (category.sources a ends there) part));
          };
          keeps = λ c ends x atom there part is.
              mediates.partial.homomorphism.keeps c ends x atom there (has_restricted H U ends.object.0 x part (all_parts ends.object.0 x (category.holders c ends there) part))
              (rw (all_atoms c ends x atom there part is) is);
        };
        from_left = λ object x below part. let own = restricted_has S.host D object x part in mediates.from_host object x below own.0 own.1;
        from_right = λ object y below part. let own = restricted_has S.right R object y part in mediates.from_right object y below own.0 own.1;
      }

  total_from_partial : (T : Instance) (d s : Map) → IsPartialCocone C S D R T d s → (u : Map) × IsMediating C (frame_of_pair S D R) H i j T d s u
  total_from_partial T d s cocone =
      let first = initial.mediating D R T d s cocone in
      let second = initial.mediating D R (restricted H first.0) i j (domain_cocone T d s cocone first.0 first.1 first.2) in
      (first.1, total T d s cocone first.0 first.1 first.2 second.0 second.1 second.2)

  pub initial_from_partial : IsInitialCocone C (frame_of_pair S D R) H i j
  initial_from_partial = record {
    cocone = (cocone_of_pair C S D R initial.largest H i j).0 initial.cocone;
    mediating = λ T d s cocone. total_from_partial T d s ((cocone_of_pair C S D R initial.largest T d s).1 cocone);
    unique = λ T d s u v cocone first second object x below part.
        (initial.unique D R T d s everything u everything v ((cocone_of_pair C S D R initial.largest T d s).1 cocone) (total_mediates T d s u first) (total_mediates T d s v second)).values object x below part refl;
  }
