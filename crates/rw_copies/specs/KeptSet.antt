-- A final pullback complement where l sends no two parts to one, over any schema: a largest set of host parts.
use Rattle.std.specs.Prelude.{◌≡◌, ◌<◌, ℕ, Bool, true, Some, slice_get}
use Rattle.rw_schema.specs.declared.signature.ArrowEnds.{ArrowEnds}
use Rattle.rw_schema.specs.declared.signature.AttrEnds.{AttrEnds}
use Rattle.rw_schema.specs.Signature.{Signature}
use Rattle.rw_spec.specs.Instance.{Instance, Has}
use Rattle.rw_spec.specs.Natural.{Map}
use Rattle.rw_spec.specs.Redex.{Redex}
use Rattle.rw_copies.specs.Copying.{IsOutside}

-- the set of host parts is closed under the arrows, and its parts of the match are those of kept parts
pub record IsKeptSet (C : Signature) (R : Redex) (in_set : ℕ → ℕ → Bool) : Type 0 where
  pub values : (a : ℕ) (ends : ArrowEnds) (g : ℕ) → slice_get C.arrows a ≡ Some ends → Has R.host ends.source.0 g
      → in_set ends.source.0 g ≡ true → in_set ends.target.0 (R.host.value a g) ≡ true
  pub kept : (object x : ℕ) → object < C.objects → Has R.left object x → in_set object (R.m object x) ≡ true
      → (z : ℕ) × Has R.keep object z × (R.l object z ≡ x)

-- D has the parts of the largest such set under their names, with the cells of kept parts at their images and the host's elsewhere
pub record IsLargestKept (C : Signature) (R : Redex) (in_set : ℕ → ℕ → Bool) (D : Instance) (k : Map) : Type 0 where
  pub set : IsKeptSet C R in_set
  pub largest : (other : ℕ → ℕ → Bool) → IsKeptSet C R other → (object g : ℕ) → object < C.objects → Has R.host object g
      → other object g ≡ true → in_set object g ≡ true
  pub there : (object g : ℕ) → object < C.objects → Has R.host object g → in_set object g ≡ true → Has D object g
  pub back : (object g : ℕ) → object < C.objects → Has D object g → Has R.host object g × (in_set object g ≡ true)
  pub arrows : (a : ℕ) (ends : ArrowEnds) (g : ℕ) → slice_get C.arrows a ≡ Some ends → Has D ends.source.0 g → D.value a g ≡ R.host.value a g
  pub from_keep : (object z : ℕ) → object < C.objects → Has R.keep object z → k object z ≡ R.m object (R.l object z)
  pub kept_cells : (c : ℕ) (ends : AttrEnds) (z : ℕ) → slice_get C.attributes c ≡ Some ends → Has R.keep ends.object.0 z
      → D.cell c (k ends.object.0 z) ≡ R.keep.cell c z
  pub host_cells : (c : ℕ) (ends : AttrEnds) (g : ℕ) → slice_get C.attributes c ≡ Some ends → Has D ends.object.0 g
      → IsOutside R ends.object.0 g → D.cell c g ≡ R.host.cell c g
