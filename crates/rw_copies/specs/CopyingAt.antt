-- A copying at one object, for proofs that go from object to object.
use Rattle.std.specs.Prelude.{◌≡◌, ℕ, Some, slice_get}
use Rattle.rw_schema.specs.declared.parts.Equation.{Equation}
use Rattle.rw_schema.specs.declared.signature.ArrowEnds.{ArrowEnds}
use Rattle.rw_schema.specs.declared.signature.AttrEnds.{AttrEnds}
use Rattle.rw_schema.specs.Signature.{Signature}
use Rattle.rw_spec.specs.Instance.{Instance, Has, follow}
use Rattle.rw_spec.specs.Natural.{Map}
use Rattle.rw_spec.specs.Redex.{Redex}
use Rattle.rw_copies.specs.Copying.{IsOutside, IsFamily, HasFamily}

-- what a copying is at an object; of other objects it speaks only of those that arrows from this one reach
pub record IsCopyingAt (C : Signature) (R : Redex) (D : Instance) (k e : Map) (object : ℕ) : Type 0 where
  pub values : (a : ℕ) (ends : ArrowEnds) (v : ℕ) → slice_get C.arrows a ≡ Some ends → ends.source.0 ≡ object → Has D object v → Has D ends.target.0 (D.value a v)
  pub over_values : (a : ℕ) (ends : ArrowEnds) (v : ℕ) → slice_get C.arrows a ≡ Some ends → ends.source.0 ≡ object → Has D object v
      → e ends.target.0 (D.value a v) ≡ R.host.value a (e object v)
  pub equations : (n : ℕ) (equation : Equation) (v : ℕ) → slice_get C.equations n ≡ Some equation → equation.object.0 ≡ object → Has D object v
      → follow D equation.left v ≡ follow D equation.right v
  pub over : (v : ℕ) → Has D object v → Has R.host object (e object v)
  pub keep_parts : (z : ℕ) → Has R.keep object z → Has D object (k object z)
  pub keep_values : (a : ℕ) (ends : ArrowEnds) (z : ℕ) → slice_get C.arrows a ≡ Some ends → ends.source.0 ≡ object → Has R.keep object z
      → k ends.target.0 (R.keep.value a z) ≡ D.value a (k object z)
  pub square : (z : ℕ) → Has R.keep object z → e object (k object z) ≡ R.m object (R.l object z)
  pub kept : (x v : ℕ) → Has R.left object x → Has D object v → e object v ≡ R.m object x → (z : ℕ) × Has R.keep object z × (k object z ≡ v)
  pub kept_once : (y z : ℕ) → Has R.keep object y → Has R.keep object z → k object y ≡ k object z → y ≡ z
  pub each : (g : ℕ) (family : ℕ → ℕ) → Has R.host object g → IsOutside R object g → IsFamily C R D e object g family
      → (v : ℕ) × Has D object v × (e object v ≡ g) × HasFamily C D object v family
  pub once : (v w : ℕ) → Has D object v → Has D object w → IsOutside R object (e object v) → e object v ≡ e object w → HasFamily C D object v (λ a. D.value a w) → v ≡ w
  pub kept_cells : (c : ℕ) (ends : AttrEnds) (z : ℕ) → slice_get C.attributes c ≡ Some ends → ends.object.0 ≡ object → Has R.keep object z
      → D.cell c (k object z) ≡ R.keep.cell c z
  pub host_cells : (c : ℕ) (ends : AttrEnds) (v : ℕ) → slice_get C.attributes c ≡ Some ends → ends.object.0 ≡ object → Has D object v → IsOutside R object (e object v)
      → D.cell c v ≡ R.host.cell c (e object v)

-- both are the same at the objects of which P holds
pub record AreSameAt (C : Signature) (P : ℕ → Type 0) (D : Instance) (k e : Map) (E : Instance) (j i : Map) : Type 0 where
  pub names : (object : ℕ) → P object → E.names object ≡ D.names object
  pub values : (a : ℕ) (ends : ArrowEnds) (v : ℕ) → slice_get C.arrows a ≡ Some ends → P ends.source.0 → E.value a v ≡ D.value a v
  pub cells : (c : ℕ) (ends : AttrEnds) (v : ℕ) → slice_get C.attributes c ≡ Some ends → P ends.object.0 → E.cell c v ≡ D.cell c v
  pub from_keep : (object z : ℕ) → P object → j object z ≡ k object z
  pub to_host : (object v : ℕ) → P object → i object v ≡ e object v
