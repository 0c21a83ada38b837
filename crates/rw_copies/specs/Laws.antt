-- What is known of all final pullback complements: which they are, that there is one, that it is the only one, and what it counts.
use Rattle.std.specs.Prelude.{◌≡◌, ◌≢◌, ◌<◌, ◌≤◌, ◌-◌, ℕ, Bool, true, List, [], length, Contains, Some, slice_get}
use Rattle.std.specs.List.{sum_by}
use Rattle.rw_schema.specs.declared.ids.ObjectId.{ObjectId}
use Rattle.rw_schema.specs.declared.parts.Equation.{Equation}
use Rattle.rw_schema.specs.First.{map_in}
use Rattle.rw_schema.specs.Signature.{Signature, IsCategory}
use Rattle.rw_schema.specs.Topological.{IsTopological}
use Rattle.rw_spec.specs.Ascending.{ascends}
use Rattle.rw_spec.specs.Instance.{Instance, Has}
use Rattle.rw_spec.specs.Natural.{Map}
use Rattle.rw_spec.specs.Redex.{Redex}
use Rattle.rw_complement.specs.Complement.{identity}
use Rattle.rw_complement.specs.Redex.{IsInjective}
use Rattle.rw_copies.specs.Copying.{IsInjectiveMatch, IsCopying}
use Rattle.rw_copies.specs.CopyLists.{copy_rows, factor_of, made_over, more_parts, product}
use Rattle.rw_copies.specs.CopyNames.{IsCopyContext, AreEqualContexts}
use Rattle.rw_copies.specs.FinalComplement.{IsFinalComplement, IsIsomorphism}
use Rattle.rw_copies.specs.KeptSet.{IsLargestKept}
use Rattle.rw_copies.specs.TooLarge.{IsTooLargeAt, AreCounted}

-- over a schema in which no arrows lead round a cycle each copying is a final pullback complement
abbrev pub CopyingsAreFinal : Type 0
CopyingsAreFinal = (C : Signature) → IsCategory C → (order : List ObjectId) → IsTopological C order → (R : Redex) → IsInjectiveMatch C R
    → (D : Instance) (k e : Map) → IsCopying C R D k e → IsFinalComplement C R D k e

-- over any schema two final pullback complements of one redex are the same but for names
abbrev pub FinalComplementsAreIsomorphic : Type 0
FinalComplementsAreIsomorphic = (C : Signature) → IsCategory C → (R : Redex) → (D : Instance) (k e : Map) (E : Instance) (j i : Map)
    → IsFinalComplement C R D k e → IsFinalComplement C R E j i → (u : Map) × (v : Map) × IsIsomorphism C R D k e E j i u v

-- a redex at an injective match, whose names ascend and are below the next ones
pub record IsNamedMatch (C : Signature) (R : Redex) (next : ℕ → ℕ) : Type 0 where
  pub match : IsInjectiveMatch C R
  pub host_ascends : (object : ℕ) → object < C.objects → ascends (R.host.names object) ≡ true
  pub keep_ascends : (object : ℕ) → object < C.objects → ascends (R.keep.names object) ≡ true
  pub below : (object g : ℕ) → object < C.objects → Has R.host object g → g < next object

-- there is a context, which is a copying whose names ascend, and any two contexts are equal
pub record HasOneCopyContext (C : Signature) (R : Redex) (next : ℕ → ℕ) : Type 0 where
  pub exists : (D : Instance) × (k : Map) × (e : Map) × (last : ℕ → ℕ) × IsCopying C R D k e × IsCopyContext C R next D k e last
      × ((object : ℕ) → object < C.objects → ascends (D.names object) ≡ true)
  pub only : (D : Instance) (k e : Map) (last : ℕ → ℕ) (E : Instance) (j i : Map) (end : ℕ → ℕ)
      → IsCopyContext C R next D k e last → IsCopyContext C R next E j i end → AreEqualContexts C R D k e last E j i end

-- each redex at an injective match has one context, where no arrows lead round a cycle
abbrev pub HaveOneCopyContext : Type 0
HaveOneCopyContext = (C : Signature) → IsCategory C → (order : List ObjectId) → IsTopological C order → (R : Redex) (next : ℕ → ℕ) → IsNamedMatch C R next
    → HasOneCopyContext C R next

-- the largest kept set is a context which gives no new names, and each context is equal to it
pub record IsOneKeptContext (C : Signature) (R : Redex) (next : ℕ → ℕ) (D : Instance) (k : Map) : Type 0 where
  pub context : IsCopyContext C R next D k identity next
  pub only : (E : Instance) (j i : Map) (end : ℕ → ℕ) → IsCopyContext C R next E j i end → AreEqualContexts C R D k identity next E j i end

-- where l is injective, over any schema
abbrev pub LargestKeptAreContexts : Type 0
LargestKeptAreContexts = (C : Signature) → IsCategory C → (R : Redex) → IsInjectiveMatch C R → IsInjective C R.keep R.l
    → (next : ℕ → ℕ) → ((object g : ℕ) → object < C.objects → Has R.host object g → g < next object)
    → (in_set : ℕ → ℕ → Bool) (D : Instance) (k : Map) → IsLargestKept C R in_set D k → IsOneKeptContext C R next D k

-- the copies of a host part are as many as a product says, with one factor for each arrow, where no equation starts at the object;
-- of the parts over a host part all but one take new names
pub record AreCopiesCounted (C : Signature) (R : Redex) (D : Instance) (e : Map) (object : ℕ) : Type 0 where
  pub copies : (g : ℕ) → ((n : ℕ) (equation : Equation) → slice_get C.equations n ≡ Some equation → equation.object.0 ≢ object)
      → length (copy_rows C R D e object g) ≡ product (map_in (factor_of R D e object g) 0 C.arrows)
  pub names : length (more_parts C R D e object) ≡ sum_by (λ g. length (made_over C R D e object g) - 1) (R.host.names object)

-- so it is at each object of each schema
abbrev pub CopiesAreCounted : Type 0
CopiesAreCounted = (C : Signature) (R : Redex) (D : Instance) (e : Map) (object : ℕ) → AreCopiesCounted C R D e object

-- once each object has been counted, the least one that was counted past the limit is where the step is too large, and where none
-- was it is not; there is only one such object
pub record HasOneTooLarge (C : Signature) (R : Redex) (limit : ℕ) (next more : ℕ → ℕ) : Type 0 where
  pub at : (before past : List ℕ) (D : Instance) (k e : Map) (last : ℕ → ℕ) → AreCounted C R limit next more before past D k e last
      → (object : ℕ) → Contains past object → ((other : ℕ) → Contains past other → object ≤ other) → IsTooLargeAt C R limit next more object
  pub none : (before : List ℕ) (D : Instance) (k e : Map) (last : ℕ → ℕ) → AreCounted C R limit next more before [] D k e last
      → (object : ℕ) → IsTooLargeAt C R limit next more object → ⊥
  pub only : (object other : ℕ) → IsTooLargeAt C R limit next more object → IsTooLargeAt C R limit next more other → object ≡ other

-- so it is for each redex at an injective match, where no arrows lead round a cycle
abbrev pub HaveOneTooLarge : Type 0
HaveOneTooLarge = (C : Signature) → IsCategory C → (order : List ObjectId) → IsTopological C order → (R : Redex) (limit : ℕ) (next more : ℕ → ℕ) → IsNamedMatch C R next
    → HasOneTooLarge C R limit next more
