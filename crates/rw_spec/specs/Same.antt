-- Instances that are the same, whatever lists and functions they are given by.
use Rattle.std.specs.Prelude.{◌≡◌, ◌<◌, ◌↔◌, ℕ, Some, slice_get}
use Rattle.rw_schema.specs.declared.signature.ArrowEnds.{ArrowEnds}
use Rattle.rw_schema.specs.declared.signature.AttrEnds.{AttrEnds}
use Rattle.rw_schema.specs.Signature.{Signature}
use Rattle.rw_spec.specs.Instance.{Instance, Has}

-- X and Y have the same names, and at these the same values and cells
pub record AreSame (C : Signature) (X Y : Instance) : Type 0 where
  pub names : (object x : ℕ) → object < C.objects → Has X object x ↔ Has Y object x
  pub values : (a : ℕ) (ends : ArrowEnds) (x : ℕ) → slice_get C.arrows a ≡ Some ends → Has X ends.source.0 x → X.value a x ≡ Y.value a x
  pub cells : (c : ℕ) (ends : AttrEnds) (x : ℕ) → slice_get C.attributes c ≡ Some ends → Has X ends.object.0 x → X.cell c x ≡ Y.cell c x
