-- Whether there is a pushout complement at all.
use Rattle.rw_schema.specs.Signature.{Signature}
use Rattle.rw_spec.specs.Instance.{Instance}
use Rattle.rw_spec.specs.Natural.{Map, SameOn}
use Rattle.rw_complement.specs.Complement.{IsComplement, IsContext}
use Rattle.rw_spec.specs.Redex.{Redex}
use Rattle.rw_spec.specs.Same.{AreSame}

-- some instance, under whatever names, is a complement
pub record HasComplement (C : Signature) (R : Redex) : Type 0 where
  pub context : Instance
  pub k : Map
  pub e : Map
  pub complement : IsComplement C R context k e

-- each least complement under names of the host is D with k
abbrev pub IsOnlyContext : Signature → Redex → Instance → Map → Type 0
IsOnlyContext C R D k = (other : Instance) (other_k : Map) → IsContext C R other other_k → AreSame C D other × SameOn C R.keep k other_k
