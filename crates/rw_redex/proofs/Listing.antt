-- The lists of an instance stand for it; and an instance that is one with an initial cocone is one.
use Rattle.std.proofs.Common.{◌∙◌, ◌<◌, ℕ, List, None, slice_index, sym}
use Rattle.rw_schema.specs.Signature.{Signature, IsCategory}
use Rattle.rw_spec.specs.Cocone.{Frame, IsMediating, IsInitialCocone}
use Rattle.rw_spec.specs.Distinct.{AreDistinct}
use Rattle.rw_spec.specs.Homomorphism.{IsHomomorphism}
use Rattle.rw_spec.specs.Instance.{Instance, IsInstance, instance_of, lists_of}
use Rattle.rw_spec.specs.Natural.{Map}
use Rattle.rw_spec.proofs.Signatures.{source_is, holder_is}
use Rattle.rw_spec.specs.Same.{AreSame}
use Rattle.rw_table.proofs.Listed.{names_listed, row_listed, cells_listed, look_mapped}
use Rattle.rw_complement.proofs.Named.{same_back, same_homomorphism}

-- an instance with distinct names is the one that its lists stand for
pub same_listed : (C : Signature) → IsCategory C → (Y : Instance) (next : List ℕ) → ((object : ℕ) → object < C.objects → AreDistinct (Y.names object))
    → AreSame C Y (instance_of C (lists_of C Y next))
same_listed C category Y next distinct = record {
  names = λ object x known. (
    (λ has. rw (names_listed C Y (slice_index next) object known) has),
    (λ has. rw (names_listed C Y (slice_index next) object known) at has),
  );
  values = λ a ends x there has.
      let source : ℕ = ends.source.0 in
      let known : source < C.objects = category.sources a ends there in
      sym (rw (source_is C a ends there, names_listed C Y (slice_index next) source known, row_listed C Y (slice_index next) a ends there)
      (look_mapped 0 (Y.value a) (Y.names source) x (distinct source known) has));
  cells = λ c ends x there has.
      let object : ℕ = ends.object.0 in
      let known : object < C.objects = category.holders c ends there in
      sym (rw (holder_is C c ends there, names_listed C Y (slice_index next) object known, cells_listed C Y (slice_index next) c ends there)
      (look_mapped None (Y.cell c) (Y.names object) x (distinct object known) has));
}

-- a homomorphism to one instance is one to the other
pub homomorphism_to_same : (C : Signature) → IsCategory C → (X Y Z : Instance) (f : Map) → AreSame C Y Z → IsHomomorphism C X Y f → IsHomomorphism C X Z f
homomorphism_to_same C category X Y Z f same to = record {
  natural = record {
    parts = λ object x known has. (same.names object (f object x) known).0 (to.natural.parts object x known has);
    commutes = λ a ends x there has.
        let known = category.sources a ends there in
        to.natural.commutes a ends x there has ∙ same.values a ends (f ends.source.0 x) there (to.natural.parts ends.source.0 x known has);
  };
  keeps = λ c ends x atom there has is.
      let known = category.holders c ends there in
      sym (same.cells c ends (f ends.object.0 x) there (to.natural.parts ends.object.0 x known has)) ∙ to.keeps c ends x atom there has is;
}

-- an instance that is one with an initial cocone is one
pub initial_of_same : (C : Signature) → IsCategory C → (F : Frame) (H H' : Instance) (d s : Map) → AreSame C H H' → IsInstance C H'
    → IsInitialCocone C F H d s → IsInitialCocone C F H' d s
initial_of_same C category F H H' d s same instance initial =
    let back : AreSame C H' H = same_back C category H H' same in
    let from : (T : Instance) (d' s' u : Map) → IsMediating C F H' d s T d' s' u → IsMediating C F H d s T d' s' u =
    λ T d' s' u mediating. record {
      homomorphism = same_homomorphism C category H H' T u same mediating.homomorphism;
      from_left = mediating.from_left;
      from_right = mediating.from_right;
    } in
    record {
      cocone = record {
        instance = instance;
        from_left = homomorphism_to_same C category F.left H H' d same initial.cocone.from_left;
        from_right = homomorphism_to_same C category F.right H H' s same initial.cocone.from_right;
        agrees = initial.cocone.agrees;
      };
      mediating = λ T d' s' cocone.
          let found = initial.mediating T d' s' cocone in (
            found.0,
            record {
              homomorphism = same_homomorphism C category H' H T found.0 back found.1.homomorphism;
              from_left = found.1.from_left;
              from_right = found.1.from_right;
            },
          );
      unique = λ T d' s' u v cocone first second object x known has.
          initial.unique T d' s' u v cocone (from T d' s' u first) (from T d' s' v second) object x known ((same.names object x known).1 has);
    }
