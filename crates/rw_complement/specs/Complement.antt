-- Pushout complements, by their universal property.
use Rattle.rw_schema.specs.Signature.{Signature}
use Rattle.rw_spec.specs.Cocone.{Frame, IsInitialCocone}
use Rattle.rw_spec.specs.Homomorphism.{IsHomomorphism, after}
use Rattle.rw_spec.specs.Instance.{Instance, IsInstance}
use Rattle.rw_spec.specs.Natural.{Map, SameOn}
use Rattle.rw_spec.specs.Redex.{Redex}

-- a candidate for a complement, D, and left, to be glued along keep
abbrev pub left_frame : Redex → Instance → Map → Frame
left_frame R D k = record { apex = R.keep; left = D; right = R.left; to_left = k; to_right = R.l }

-- D is a pushout complement: the host is D and left, glued along keep
pub record IsComplement (C : Signature) (R : Redex) (D : Instance) (k e : Map) : Type 0 where
  pub instance : IsInstance C D
  pub from_keep : IsHomomorphism C R.keep D k
  pub pushout : IsInitialCocone C (left_frame R D k) R.host e R.m

-- a homomorphism, u, from one complement to another agrees with the maps from keep and with those to the host
pub record IsBetween (C : Signature) (R : Redex) (D : Instance) (k e : Map) (D' : Instance) (k' e' u : Map) : Type 0 where
  pub homomorphism : IsHomomorphism C D D' u
  pub from_keep : SameOn C R.keep (after u k) k'
  pub to_host : SameOn C D (after e' u) e

-- a pushout complement from which exactly one homomorphism leads to each other one and agrees with the maps from keep and to the host
pub record IsLeastComplement (C : Signature) (R : Redex) (D : Instance) (k e : Map) : Type 0 where
  pub complement : IsComplement C R D k e
  pub least : (D' : Instance) (k' e' : Map) → IsComplement C R D' k' e' → (u : Map) × IsBetween C R D k e D' k' e' u
  pub unique : (D' : Instance) (k' e' u v : Map) → IsComplement C R D' k' e' → IsBetween C R D k e D' k' e' u → IsBetween C R D k e D' k' e' v
      → SameOn C D u v

-- each name is sent to itself
abbrev pub identity : Map
identity object x = x

-- the least pushout complement, under names of the host
abbrev pub IsContext : Signature → Redex → Instance → Map → Type 0
IsContext C R D k = IsLeastComplement C R D k identity
