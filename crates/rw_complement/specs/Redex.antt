-- The place in a host at which the left half of a span is applied, and the gluing condition there.
use Rattle.std.specs.Prelude.{◌≡◌, ◌<◌, ◌⊎◌, ℕ, Some, slice_get}
use Rattle.rw_schema.specs.declared.signature.ArrowEnds.{ArrowEnds}
use Rattle.rw_schema.specs.declared.signature.AttrEnds.{AttrEnds}
use Rattle.rw_schema.specs.Signature.{Signature}
use Rattle.rw_spec.specs.Homomorphism.{IsHomomorphism}
use Rattle.rw_spec.specs.Instance.{Instance, IsInstance, Has}
use Rattle.rw_spec.specs.Natural.{Map, IsNatural}
use Rattle.rw_spec.specs.Redex.{Redex}

-- no two names of one object have one image
abbrev pub IsInjective : Signature → Instance → Map → Type 0
IsInjective C X f = (object x y : ℕ) → object < C.objects → Has X object x → Has X object y → f object x ≡ f object y → x ≡ y

-- all three are instances, l is an injective homomorphism, m is natural, and the cells of left are those of its images
pub record IsRedex (C : Signature) (R : Redex) : Type 0 where
  pub keep : IsInstance C R.keep
  pub left : IsInstance C R.left
  pub host : IsInstance C R.host
  pub l : IsHomomorphism C R.keep R.left R.l
  pub injective : IsInjective C R.keep R.l
  pub m : IsNatural C R.left R.host R.m
  pub cells : (c : ℕ) (ends : AttrEnds) (y : ℕ) → slice_get C.attributes c ≡ Some ends → Has R.left ends.object.0 y
      → R.left.cell c y ≡ R.host.cell c (R.m ends.object.0 y)

-- the part of left stays: it is the image of a part of keep
abbrev pub IsKept : Redex → ℕ → ℕ → Type 0
IsKept R object y = (z : ℕ) × Has R.keep object z × (R.l object z ≡ y)

-- the part of the host is the image of a part of left
abbrev pub IsMatched : Redex → ℕ → ℕ → Type 0
IsMatched R object w = (y : ℕ) × Has R.left object y × (R.m object y ≡ w)

-- the part of the host is the image of a part of left that does not stay
abbrev pub IsRemoved : Redex → ℕ → ℕ → Type 0
IsRemoved R object w = (y : ℕ) × Has R.left object y × (R.m object y ≡ w) × (IsKept R object y → ⊥)

-- the gluing condition: two different parts of left with one image both stay, and no arrow leads from a part of the host that
-- is not matched to one that is removed
pub record CanBeGlued (C : Signature) (R : Redex) : Type 0 where
  pub identification : (object x y : ℕ) → object < C.objects → Has R.left object x → Has R.left object y → R.m object x ≡ R.m object y
      → (x ≡ y) ⊎ (IsKept R object x × IsKept R object y)
  pub dangling : (a : ℕ) (ends : ArrowEnds) (w : ℕ) → slice_get C.arrows a ≡ Some ends → Has R.host ends.source.0 w
      → IsRemoved R ends.target.0 (R.host.value a w) → IsMatched R ends.source.0 w
