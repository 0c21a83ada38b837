-- Instances before their equations and kinds are looked at.
use Rattle.std.specs.Prelude.{◌≡◌, ℕ, Some, slice_get}
use Rattle.rw_schema.specs.declared.signature.ArrowEnds.{ArrowEnds}
use Rattle.rw_schema.specs.Signature.{Signature}
use Rattle.rw_spec.specs.Instance.{Instance, Has}

-- each arrow is a function from the names of its source to those of its target
abbrev pub HasValues : Signature → Instance → Type 0
HasValues C X = (a : ℕ) (ends : ArrowEnds) (x : ℕ) → slice_get C.arrows a ≡ Some ends → Has X ends.source.0 x → Has X ends.target.0 (X.value a x)
