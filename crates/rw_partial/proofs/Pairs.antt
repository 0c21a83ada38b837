-- The frame of the largest fitting pair: what is glued, and along what.
use Rattle.std.proofs.Common.{◌≡◌, ◌∙◌, ℕ, true, Some, slice_get, refl, ap}
use Rattle.rw_schema.specs.declared.signature.ArrowEnds.{ArrowEnds}
use Rattle.rw_schema.specs.Signature.{Signature, IsCategory}
use Rattle.rw_spec.specs.Instance.{IsInstance, Has}
use Rattle.rw_spec.specs.Natural.{IsNatural}
use Rattle.rw_spec.proofs.Sequences.{contains_filter, contained_in_filter}
use Rattle.rw_partial.specs.SubInstance.{Elements}
use Rattle.rw_partial.specs.SinglePushout.{Applied, IsApplied, IsLargestPair, frame_of_pair}
use Rattle.rw_partial.proofs.SubInstances.{sub_instance}

module _ (C : Signature) (category : IsCategory C) (S : Applied) (applied : IsApplied C S) (D R : Elements) (largest : IsLargestPair C S D R) where
  -- the set of the host is an instance
  pub pair_host : IsInstance C (frame_of_pair S D R).left
  pair_host = sub_instance C category S.host D applied.host largest.fits.host

  -- and so is that of the right side
  pub pair_right : IsInstance C (frame_of_pair S D R).right
  pair_right = sub_instance C category S.right R applied.right largest.fits.right

  -- a kept part in the apex is one whose right part is in the set
  in_apex : (object z : ℕ) → Has (frame_of_pair S D R).apex object z → Has S.keep object z × (R.part object (S.r object z) ≡ true)
  in_apex object z has = contained_in_filter (λ z. R.part object (S.r object z)) (S.keep.names object) z has

  -- with the right part of a kept part that of an arrow's value is in the set
  inside : (a : ℕ) (ends : ArrowEnds) (z : ℕ) → slice_get C.arrows a ≡ Some ends → Has S.keep ends.source.0 z → R.part ends.source.0 (S.r ends.source.0 z) ≡ true
      → R.part ends.target.0 (S.r ends.target.0 (S.keep.value a z)) ≡ true
  inside a ends z there has in_set =
      ap (R.part ends.target.0) (applied.r.commutes a ends z there has)
      ∙ largest.fits.right.values a ends (S.r ends.source.0 z) there (applied.r.parts ends.source.0 z (category.sources a ends there) has) in_set

  -- the kept parts with a right part in the set are an instance
  pub pair_apex : IsInstance C (frame_of_pair S D R).apex
  pair_apex = record {
    values = λ a ends z there has.
        let own = in_apex ends.source.0 z has in
        contains_filter (λ z. R.part ends.target.0 (S.r ends.target.0 z)) (S.keep.names ends.target.0) (S.keep.value a z) (applied.keep.values a ends z there own.0)
        (inside a ends z there own.0 own.1);
    atoms = λ c ends z atom there has blank. let none : ⊥ = cc in absurd none;
    equations = λ e equation z there has. applied.keep.equations e equation z there (in_apex equation.object.0 z has).0;
  }

  -- they map naturally to the set of the host
  pub pair_to_host : IsNatural C (frame_of_pair S D R).apex (frame_of_pair S D R).left (frame_of_pair S D R).to_left
  pair_to_host = record {
    parts = λ object z known has.
        let own = in_apex object z has in
        let x : ℕ = S.l object z in
        let has_x : Has S.left object x = applied.l.parts object z known own.0 in
        contains_filter (D.part object) (S.host.names object) (S.m object x) (applied.m.parts object x known has_x)
        ((largest.fits.parts object x known has_x).1 (z, own.0, refl, own.1));
    commutes = λ a ends z there has.
        let own = in_apex ends.source.0 z has in
        ap (S.m ends.target.0) (applied.l.commutes a ends z there own.0)
        ∙ applied.m.commutes a ends (S.l ends.source.0 z) there (applied.l.parts ends.source.0 z (category.sources a ends there) own.0);
  }

  -- and to that of the right side
  pub pair_to_right : IsNatural C (frame_of_pair S D R).apex (frame_of_pair S D R).right (frame_of_pair S D R).to_right
  pair_to_right = record {
    parts = λ object z known has.
        let own = in_apex object z has in
        contains_filter (R.part object) (S.right.names object) (S.r object z) (applied.r.parts object z known own.0) own.1;
    commutes = λ a ends z there has. applied.r.commutes a ends z there (in_apex ends.source.0 z has).0;
  }
