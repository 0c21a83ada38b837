-- What is known of all pushout complements of a redex: when there is one, which is the least, and that it is the only least one.
use Rattle.std.specs.Prelude.{◌↔◌}
use Rattle.rw_schema.specs.Signature.{Signature, IsCategory}
use Rattle.rw_spec.specs.Instance.{Instance}
use Rattle.rw_spec.specs.Natural.{Map, SameOn}
use Rattle.rw_spec.specs.Redex.{Redex}
use Rattle.rw_spec.specs.Same.{AreSame}
use Rattle.rw_complement.specs.Complement.{IsComplement, IsContext}
use Rattle.rw_complement.specs.Context.{context_of, context_map}
use Rattle.rw_complement.specs.Redex.{IsRedex, CanBeGlued}

-- the redex has a pushout complement, under whatever names
abbrev pub HasComplement : Signature → Redex → Type 0
HasComplement C R = (D : Instance) × (k : Map) × (e : Map) × IsComplement C R D k e

-- the gluing condition holds exactly where there is a pushout complement; the least is then known part by part, and under names
-- of the host it is the only one
pub record HasOneContext (C : Signature) (R : Redex) : Type 0 where
  pub exists : CanBeGlued C R ↔ HasComplement C R
  pub least : CanBeGlued C R → IsContext C R (context_of C R) (context_map R)
  pub only : (D D' : Instance) (k k' : Map) → IsContext C R D k → IsContext C R D' k' → AreSame C D D' × SameOn C R.keep k k'

-- each redex of each schema has one context, or none
abbrev pub HaveOneContext : Type 0
HaveOneContext = (C : Signature) → IsCategory C → (R : Redex) → IsRedex C R → HasOneContext C R
