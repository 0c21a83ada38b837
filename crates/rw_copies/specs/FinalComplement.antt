-- Final pullback complements (Corradini, Heindel, Hermann and König, "Sesqui-pushout rewriting", 2006): the context of a
-- sesqui-pushout step.
use Rattle.std.specs.Prelude.{◌≡◌, ◌<◌, ℕ}
use Rattle.rw_schema.specs.Signature.{Signature}
use Rattle.rw_spec.specs.Homomorphism.{IsHomomorphism, after}
use Rattle.rw_spec.specs.Instance.{Instance, IsInstance, Has}
use Rattle.rw_spec.specs.Natural.{Map, SameOn}
use Rattle.rw_spec.specs.Pullback.{Cospan}
use Rattle.rw_spec.specs.Pairing.{IsPairing}
use Rattle.rw_spec.specs.Redex.{Redex}
use Rattle.rw_complement.specs.Complement.{identity}

-- the match and another instance over the host
abbrev pub over_host : Redex → Instance → Map → Cospan
over_host R D e = record { left = R.left; right = D; base = R.host; left_map = R.m; right_map = e }

-- another instance over the host, whose pullback with the match leads to the kept instance, over the left one
pub record IsCompetitor (C : Signature) (R : Redex) (T : Instance) (d : Map) (P : Instance) (p q w : Map) : Type 0 where
  pub instance : IsInstance C T
  pub to_host : IsHomomorphism C T R.host d
  pub pullback : IsPairing C (over_host R T d) P p q
  pub to_keep : IsHomomorphism C P R.keep w
  pub over_left : SameOn C P (after R.l w) p

-- u leads from the competitor to D, over the host, and is w on the pullback
pub record IsMediatingOver (C : Signature) (D : Instance) (k e : Map) (T : Instance) (d : Map) (P : Instance) (q w u : Map) : Type 0 where
  pub homomorphism : IsHomomorphism C T D u
  pub over_host : SameOn C T (after e u) d
  pub on_keep : SameOn C P (after u q) (after k w)

-- D with the maps from the kept instance and to the host makes a pullback square with the match, and exactly one homomorphism
-- leads to it from each competitor and commutes
pub record IsFinalComplement (C : Signature) (R : Redex) (D : Instance) (k e : Map) : Type 0 where
  pub instance : IsInstance C D
  pub to_host : IsHomomorphism C D R.host e
  pub pullback : IsPairing C (over_host R D e) R.keep R.l k
  pub mediating : (T : Instance) (d : Map) (P : Instance) (p q w : Map) → IsCompetitor C R T d P p q w
      → (u : Map) × IsMediatingOver C D k e T d P q w u
  pub unique : (T : Instance) (d : Map) (P : Instance) (p q w u v : Map) → IsCompetitor C R T d P p q w
      → IsMediatingOver C D k e T d P q w u → IsMediatingOver C D k e T d P q w v → SameOn C T u v

-- u and v lead from one instance to the other and back
pub record AreInverse (C : Signature) (D E : Instance) (u v : Map) : Type 0 where
  pub there : (object x : ℕ) → object < C.objects → Has D object x → Has E object (u object x)
  pub back : (object y : ℕ) → object < C.objects → Has E object y → Has D object (v object y)
  pub returns : (object x : ℕ) → object < C.objects → Has D object x → v object (u object x) ≡ x
  pub goes : (object y : ℕ) → object < C.objects → Has E object y → u object (v object y) ≡ y

-- u and v lead from one final complement to the other and back, over the host, and agree with the maps from the kept instance
pub record IsIsomorphism (C : Signature) (R : Redex) (D : Instance) (k e : Map) (E : Instance) (j i : Map) (u v : Map) : Type 0 where
  pub there : IsMediatingOver C E j i D e R.keep k identity u
  pub back : IsMediatingOver C D k e E i R.keep j identity v
  pub inverse : AreInverse C D E u v
