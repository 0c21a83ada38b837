-- Two final complements are the same but for names.
use Rattle.std.proofs.Common.{◌∙◌, ℕ, ◌<◌, refl, sym, ap, subst}
use Rattle.rw_schema.specs.Signature.{Signature, IsCategory}
use Rattle.rw_spec.specs.Homomorphism.{IsHomomorphism, after}
use Rattle.rw_spec.specs.Instance.{Instance, Has}
use Rattle.rw_spec.specs.Natural.{Map, SameOn}
use Rattle.rw_complement.specs.Complement.{identity}
use Rattle.rw_copies.specs.FinalComplement.{IsCompetitor, IsMediatingOver, IsFinalComplement, IsIsomorphism}
use Rattle.rw_spec.specs.Redex.{Redex}
use Rattle.rw_spec.specs.Same.{AreSame}
use Rattle.rw_complement.proofs.Tests.{same_answer}

-- the identity is a homomorphism
pub identity_homomorphism : (C : Signature) (X : Instance) → IsHomomorphism C X X identity
identity_homomorphism C X = record {
  natural = record { parts = λ object x below part. part; commutes = λ a ends x there part. refl };
  keeps = λ c ends x atom there part is. is;
}

-- homomorphisms one after the other are a homomorphism
pub composed : (C : Signature) → IsCategory C → (X Y Z : Instance) (f g : Map) → IsHomomorphism C X Y f → IsHomomorphism C Y Z g → IsHomomorphism C X Z (after g f)
composed C category X Y Z f g first second = record {
  natural = record {
    parts = λ object x below part. second.natural.parts object (f object x) below (first.natural.parts object x below part);
    commutes = λ a ends x there part. ap (g ends.target.0) (first.natural.commutes a ends x there part)
        ∙ second.natural.commutes a ends (f ends.source.0 x) there (first.natural.parts ends.source.0 x (category.sources a ends there) part);
  };
  keeps = λ c ends x atom there part is.
      second.keeps c ends (f ends.object.0 x) atom there (first.natural.parts ends.object.0 x (category.holders c ends there) part) (first.keeps c ends x atom there part is);
}

-- a final complement competes with each, by the kept instance itself
pub competes : (C : Signature) (R : Redex) (D : Instance) (k e : Map) → IsFinalComplement C R D k e → IsCompetitor C R D e R.keep R.l k identity
competes C R D k e final = record {
  instance = final.instance;
  to_host = final.to_host;
  pullback = final.pullback;
  to_keep = identity_homomorphism C R.keep;
  over_left = λ object z below part. refl;
}

-- going there and back mediates from a final complement to itself
round_trip : (C : Signature) → IsCategory C → (R : Redex) (D : Instance) (k e : Map) (E : Instance) (j i u v : Map) → IsFinalComplement C R D k e
    → IsMediatingOver C E j i D e R.keep k identity u → IsMediatingOver C D k e E i R.keep j identity v → SameOn C D (after v u) identity
round_trip C category R D k e E j i u v final there back =
    final.unique D e R.keep R.l k identity (after v u) identity (competes C R D k e final)
    (record {
      homomorphism = composed C category D E D u v there.homomorphism back.homomorphism;
      over_host = λ object x below part. back.over_host object (u object x) below (there.homomorphism.natural.parts object x below part) ∙ there.over_host object x below part;
      on_keep = λ object z below part. ap (v object) (there.on_keep object z below part) ∙ back.on_keep object z below part;
    })
    (record {
      homomorphism = identity_homomorphism C D;
      over_host = λ object x below part. refl;
      on_keep = λ object z below part. refl;
    })

-- final complements of one match are the same but for names
pub final_once : (C : Signature) → IsCategory C → (R : Redex) (D : Instance) (k e : Map) (E : Instance) (j i : Map) → IsFinalComplement C R D k e → IsFinalComplement C R E j i
    → (u : Map) × (v : Map) × IsIsomorphism C R D k e E j i u v
final_once C category R D k e E j i first second =
    let there = second.mediating D e R.keep R.l k identity (competes C R D k e first) in
    let back = first.mediating E i R.keep R.l j identity (competes C R E j i second) in (
      there.0,
      back.0,
      record {
        there = there.1;
        back = back.1;
        inverse = record {
          there = there.1.homomorphism.natural.parts;
          back = back.1.homomorphism.natural.parts;
          returns = round_trip C category R D k e E j i there.0 back.0 first there.1 back.1;
          goes = round_trip C category R E j i D k e back.0 there.0 second back.1 there.1;
        };
      },
    )

-- final complements between which names stay are the same
pub same_where_names_stay : (C : Signature) → IsCategory C → (R : Redex) (D : Instance) (k e : Map) (E : Instance) (j i u v : Map) → IsFinalComplement C R D k e
    → IsIsomorphism C R D k e E j i u v → SameOn C D u identity → AreSame C D E × SameOn C R.keep k j × SameOn C D e i
same_where_names_stay C category R D k e E j i u v final both stay =
    let in_other : (object x : ℕ) → object < C.objects → Has D object x → Has E object x = λ object x below part.
    subst (λ (y : ℕ). Has E object y) (stay object x below part) (both.inverse.there object x below part) in
    let back_stay : SameOn C E v identity = λ object y below part.
    sym (stay object (v object y) below (both.inverse.back object y below part)) ∙ both.inverse.goes object y below part in (
      record {
        names = λ object x below. (in_other object x below, λ part. subst (λ (y : ℕ). Has D object y) (back_stay object x below part) (both.inverse.back object x below part));
        values = λ a ends x there part.
            sym (stay ends.target.0 (D.value a x) (category.targets a ends there) (final.instance.values a ends x there part))
            ∙ both.there.homomorphism.natural.commutes a ends x there part ∙ ap (E.value a) (stay ends.source.0 x (category.sources a ends there) part);
        cells = λ c ends x there part.
            let below = category.holders c ends there in
            let other = in_other ends.object.0 x below part in
            same_answer (D.cell c x) (E.cell c x)
            (λ atom is. ap (E.cell c) (sym (stay ends.object.0 x below part)) ∙ both.there.homomorphism.keeps c ends x atom there part is)
            (λ atom is. ap (D.cell c) (sym (back_stay ends.object.0 x below other)) ∙ both.back.homomorphism.keeps c ends x atom there other is);
      },
      (λ object z below part. sym (stay object (k object z) below (final.pullback.to_right.natural.parts object z below part)) ∙ both.there.on_keep object z below part),
      (λ object x below part. sym (both.there.over_host object x below part) ∙ ap (i object) (stay object x below part)),
    )
