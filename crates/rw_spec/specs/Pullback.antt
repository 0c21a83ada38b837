-- Pullbacks, by their universal property: a terminal cone over two maps into one instance.
use Rattle.rw_schema.specs.Signature.{Signature}
use Rattle.rw_spec.specs.Homomorphism.{IsHomomorphism, after}
use Rattle.rw_spec.specs.Instance.{Instance, IsInstance}
use Rattle.rw_spec.specs.Natural.{Map, SameOn}

-- two instances over one base
pub record Cospan : Type 0 where
  pub left : Instance
  pub right : Instance
  pub base : Instance
  pub left_map : Map
  pub right_map : Map

-- T leads to both instances, and the two ways to the base are one
pub record IsCone (C : Signature) (S : Cospan) (T : Instance) (d s : Map) : Type 0 where
  pub instance : IsInstance C T
  pub to_left : IsHomomorphism C T S.left d
  pub to_right : IsHomomorphism C T S.right s
  pub agrees : SameOn C T (after S.left_map d) (after S.right_map s)

-- u leads from the cone T to the cone P, and commutes with the maps to both instances
pub record IsMediatingTo (C : Signature) (P : Instance) (p q : Map) (T : Instance) (d s u : Map) : Type 0 where
  pub homomorphism : IsHomomorphism C T P u
  pub to_left : SameOn C T (after p u) d
  pub to_right : SameOn C T (after q u) s

-- P is a cone, and exactly one homomorphism leads to it from each cone and commutes
pub record IsPullback (C : Signature) (S : Cospan) (P : Instance) (p q : Map) : Type 0 where
  pub cone : IsCone C S P p q
  pub mediating : (T : Instance) (d s : Map) → IsCone C S T d s → (u : Map) × IsMediatingTo C P p q T d s u
  pub unique : (T : Instance) (d s u v : Map) → IsCone C S T d s → IsMediatingTo C P p q T d s u → IsMediatingTo C P p q T d s v
      → SameOn C T u v
