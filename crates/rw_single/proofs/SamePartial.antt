-- An instance that is one with an initial partial cocone is one.
use Rattle.std.proofs.Common.{◌∙◌, cond, Option, None, ap}
use Rattle.rw_schema.specs.declared.atom.Atom.{Atom}
use Rattle.rw_schema.specs.Signature.{Signature, IsCategory}
use Rattle.rw_spec.specs.Instance.{Instance, IsInstance}
use Rattle.rw_spec.specs.Natural.{Map}
use Rattle.rw_spec.specs.Same.{AreSame}
use Rattle.rw_complement.proofs.Named.{same_back, same_homomorphism}
use Rattle.rw_redex.proofs.Listing.{homomorphism_to_same}
use Rattle.rw_partial.specs.SinglePushout.{Applied, IsInitialPartialCocone, IsMediatingPartial}
use Rattle.rw_partial.specs.SubInstance.{Elements, restricted}
use Rattle.rw_partial.proofs.SubInstances.{has_restricted, restricted_has}

-- a set of elements is the same of both
restricted_to_same : (C : Signature) (H H' : Instance) (U : Elements) → AreSame C H H' → AreSame C (restricted H U) (restricted H' U)
restricted_to_same C H H' U same = record {
  names = λ object x known. (
    (λ has. let own = restricted_has H U object x has in has_restricted H' U object x ((same.names object x known).0 own.0) own.1),
    (λ has. let own = restricted_has H' U object x has in has_restricted H U object x ((same.names object x known).1 own.0) own.1),
  );
  values = λ a ends x there has. same.values a ends x there (restricted_has H U ends.source.0 x has).0;
  cells = λ c ends x there has.
      ap (λ (cell : Option Atom). cond (U.cell c x) cell None) (same.cells c ends x there (restricted_has H U ends.object.0 x has).0);
}

module _ (C : Signature) (category : IsCategory C) (S : Applied) (D R : Elements) (i j : Map) where
  -- what mediates from one does from the other
  mediating_from_same : (H H' : Instance) → AreSame C H H' → (E Q : Elements) (T : Instance) (d s : Map) (U : Elements) (u : Map)
      → IsMediatingPartial C S D R H i j E Q T d s U u → IsMediatingPartial C S D R H' i j E Q T d s U u
  mediating_from_same H H' same E Q T d s U u mediating =
      let back : AreSame C H' H = same_back C category H H' same in
      record {
        partial = record {
          domain = record {
            values = λ a ends x there has in_set.
                let own = back.names ends.source.0 x (category.sources a ends there) in
                ap (U.part ends.target.0) (back.values a ends x there has) ∙ mediating.partial.domain.values a ends x there (own.0 has) in_set;
            holders = λ c ends x there has in_set.
                mediating.partial.domain.holders c ends x there ((back.names ends.object.0 x (category.holders c ends there)).0 has) in_set;
          };
          homomorphism = same_homomorphism C category (restricted H' U) (restricted H U) T u (restricted_to_same C H' H U back) mediating.partial.homomorphism;
        };
        host_parts = mediating.host_parts;
        host_cells = mediating.host_cells;
        right_parts = mediating.right_parts;
        right_cells = mediating.right_cells;
        from_host = mediating.from_host;
        from_right = mediating.from_right;
      }

  -- an instance that is one with an initial partial cocone is one
  pub partial_of_same : (H H' : Instance) → AreSame C H H' → IsInstance C H' → IsInitialPartialCocone C S D R H i j → IsInitialPartialCocone C S D R H' i j
  partial_of_same H H' same instance initial =
      let back : AreSame C H' H = same_back C category H H' same in
      record {
        largest = initial.largest;
        cocone = record {
          instance = instance;
          fits = initial.cocone.fits;
          from_host = homomorphism_to_same C category (restricted S.host D) H H' i same initial.cocone.from_host;
          from_right = homomorphism_to_same C category (restricted S.right R) H H' j same initial.cocone.from_right;
          agrees = initial.cocone.agrees;
        };
        mediating = λ E Q T d s cocone.
            let found = initial.mediating E Q T d s cocone in
            (found.0, found.1, mediating_from_same H H' same E Q T d s found.0 found.1 found.2);
        unique = λ E Q T d s U u V v cocone first second.
            let one = initial.unique E Q T d s U u V v cocone (mediating_from_same H' H back E Q T d s U u first) (mediating_from_same H' H back E Q T d s V v second) in
            record {
              domain = record {
                parts = λ object x known has. one.domain.parts object x known ((back.names object x known).0 has);
                cells = λ c ends x there has. one.domain.cells c ends x there ((back.names ends.object.0 x (category.holders c ends there)).0 has);
              };
              values = λ object x known has in_set. one.values object x known ((back.names object x known).0 has) in_set;
            };
      }
