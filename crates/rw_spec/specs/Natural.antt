-- Natural maps between instances.
use Rattle.std.specs.Prelude.{◌≡◌, ◌<◌, ℕ, Bool, true, List, Some, slice_get}
use Rattle.rw_schema.specs.declared.signature.ArrowEnds.{ArrowEnds}
use Rattle.rw_schema.specs.Signature.{Signature}
use Rattle.rw_spec.specs.Instance.{Instance, Has}

-- a map of parts: of an object, at a name
abbrev pub Map : Type 0
Map = ℕ → ℕ → ℕ

-- the maps are the same on the names of X
abbrev pub SameOn : Signature → Instance → Map → Map → Type 0
SameOn C X f g = (object x : ℕ) → object < C.objects → Has X object x → f object x ≡ g object x

-- f sends names to names, and commutes with each arrow
pub record IsNatural (C : Signature) (X Y : Instance) (f : Map) : Type 0 where
  pub parts : (object x : ℕ) → object < C.objects → Has X object x → Has Y object (f object x)
  pub commutes : (a : ℕ) (ends : ArrowEnds) (x : ℕ) → slice_get C.arrows a ≡ Some ends → Has X ends.source.0 x
      → f ends.target.0 (X.value a x) ≡ Y.value a (f ends.source.0 x)

-- f sends no two names of an object that is marked to one name
abbrev pub IsInjectiveOn : List Bool → Instance → Map → Type 0
IsInjectiveOn marked X f = (object x y : ℕ) → slice_get marked object ≡ Some true → Has X object x → Has X object y
    → f object x ≡ f object y → x ≡ y
