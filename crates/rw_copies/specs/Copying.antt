-- A final pullback complement, object by object, where no arrows lead round a cycle: over a part of the match the kept parts, over
-- another host part one part for each family of parts over the values of its arrows that satisfies the equations.
use Rattle.std.specs.Prelude.{◌≡◌, ◌<◌, ◌≢◌, ℕ, List, [], ◌∷◌, Some, slice_get}
use Rattle.rw_schema.specs.declared.ids.ArrowId.{ArrowId}
use Rattle.rw_schema.specs.declared.parts.Equation.{Equation}
use Rattle.rw_schema.specs.declared.signature.ArrowEnds.{ArrowEnds}
use Rattle.rw_schema.specs.declared.signature.AttrEnds.{AttrEnds}
use Rattle.rw_schema.specs.Signature.{Signature}
use Rattle.rw_spec.specs.Homomorphism.{IsHomomorphism, after}
use Rattle.rw_spec.specs.Instance.{Instance, IsInstance, Has, follow}
use Rattle.rw_spec.specs.Natural.{Map, IsNatural, SameOn}
use Rattle.rw_spec.specs.Redex.{Redex}
use Rattle.rw_complement.specs.Redex.{IsInjective}

-- each arrow leads to an object of lesser rank
abbrev pub IsRank : Signature → (ℕ → ℕ) → Type 0
IsRank C rank = (a : ℕ) (ends : ArrowEnds) → slice_get C.arrows a ≡ Some ends → rank ends.target.0 < rank ends.source.0

-- l and m are homomorphisms of instances, m sends no two parts to one, and the left side has the host's cells
pub record IsInjectiveMatch (C : Signature) (R : Redex) : Type 0 where
  pub keep : IsInstance C R.keep
  pub host : IsInstance C R.host
  pub l : IsHomomorphism C R.keep R.left R.l
  pub m : IsNatural C R.left R.host R.m
  pub injective : IsInjective C R.left R.m
  pub cells : (c : ℕ) (ends : AttrEnds) (x : ℕ) → slice_get C.attributes c ≡ Some ends → Has R.left ends.object.0 x
      → R.left.cell c x ≡ R.host.cell c (R.m ends.object.0 x)

-- no part of the left side goes to the host part
abbrev pub IsOutside : Redex → ℕ → ℕ → Type 0
IsOutside R object g = (x : ℕ) → Has R.left object x → R.m object x ≢ g

-- where a path leads, whose first arrow leads to the part that the family has for it; the empty path says nothing
abbrev pub follow_from : Instance → (ℕ → ℕ) → List ArrowId → ℕ
follow_from D family [] = 0
follow_from D family (arrow ∷ path) = follow D path (family arrow.0)

-- for each arrow that leaves the object a part of D over the arrow's value at the host part g, such that the equations of the object hold
pub record IsFamily (C : Signature) (R : Redex) (D : Instance) (e : Map) (object g : ℕ) (family : ℕ → ℕ) : Type 0 where
  pub parts : (a : ℕ) (ends : ArrowEnds) → slice_get C.arrows a ≡ Some ends → ends.source.0 ≡ object → Has D ends.target.0 (family a)
  pub over : (a : ℕ) (ends : ArrowEnds) → slice_get C.arrows a ≡ Some ends → ends.source.0 ≡ object
      → e ends.target.0 (family a) ≡ R.host.value a g
  pub equations : (n : ℕ) (equation : Equation) → slice_get C.equations n ≡ Some equation → equation.object.0 ≡ object
      → follow_from D family equation.left ≡ follow_from D family equation.right

-- the arrows that leave the object lead from v to the parts of the family
abbrev pub HasFamily : Signature → Instance → ℕ → ℕ → (ℕ → ℕ) → Type 0
HasFamily C D object v family = (a : ℕ) (ends : ArrowEnds) → slice_get C.arrows a ≡ Some ends → ends.source.0 ≡ object → D.value a v ≡ family a

-- over each part of the match the kept parts that lead to it, each once, with their cells; over each other host part one part for
-- each family, with the host's cells
pub record IsCopying (C : Signature) (R : Redex) (D : Instance) (k e : Map) : Type 0 where
  pub instance : IsInstance C D
  pub to_host : IsNatural C D R.host e
  pub from_keep : IsNatural C R.keep D k
  pub square : SameOn C R.keep (after e k) (after R.m R.l)
  pub kept : (object x v : ℕ) → object < C.objects → Has R.left object x → Has D object v → e object v ≡ R.m object x
      → (z : ℕ) × Has R.keep object z × (k object z ≡ v)
  pub kept_once : (object y z : ℕ) → object < C.objects → Has R.keep object y → Has R.keep object z → k object y ≡ k object z → y ≡ z
  pub each : (object g : ℕ) (family : ℕ → ℕ) → object < C.objects → Has R.host object g → IsOutside R object g → IsFamily C R D e object g family
      → (v : ℕ) × Has D object v × (e object v ≡ g) × HasFamily C D object v family
  pub once : (object v w : ℕ) → object < C.objects → Has D object v → Has D object w → IsOutside R object (e object v) → e object v ≡ e object w
      → HasFamily C D object v (λ a. D.value a w) → v ≡ w
  pub kept_cells : (c : ℕ) (ends : AttrEnds) (z : ℕ) → slice_get C.attributes c ≡ Some ends → Has R.keep ends.object.0 z
      → D.cell c (k ends.object.0 z) ≡ R.keep.cell c z
  pub host_cells : (c : ℕ) (ends : AttrEnds) (v : ℕ) → slice_get C.attributes c ≡ Some ends → Has D ends.object.0 v
      → IsOutside R ends.object.0 (e ends.object.0 v) → D.cell c v ≡ R.host.cell c (e ends.object.0 v)
