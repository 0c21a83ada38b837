-- The largest fitting pair by removal: what no fitting pair can have goes, until what is left fits.
use Rattle.std.specs.Prelude.{◌≡◌, ◌<◌, ◌≢◌, ◌&&◌, ℕ, Bool, true, false, not, Some, slice_get}
use Rattle.rw_schema.specs.declared.signature.ArrowEnds.{ArrowEnds}
use Rattle.rw_schema.specs.declared.signature.AttrEnds.{AttrEnds}
use Rattle.rw_schema.specs.Signature.{Signature, holder_of}
use Rattle.rw_spec.specs.Instance.{Has}
use Rattle.rw_partial.specs.SubInstance.{Elements}
use Rattle.rw_partial.specs.SinglePushout.{Applied, Fits}

-- no fitting pair has this part of the host, cell of the host, part of the right side, cell of the right side
abbrev pub NoPart : Signature → Applied → ℕ → ℕ → Type 0
NoPart C S object x = (E Q : Elements) → Fits C S E Q → E.part object x ≡ false

abbrev pub NoCell : Signature → Applied → ℕ → ℕ → Type 0
NoCell C S c x = (E Q : Elements) → Fits C S E Q → E.cell c x ≡ false

abbrev pub NoRightPart : Signature → Applied → ℕ → ℕ → Type 0
NoRightPart C S object y = (E Q : Elements) → Fits C S E Q → Q.part object y ≡ false

abbrev pub NoRightCell : Signature → Applied → ℕ → ℕ → Type 0
NoRightCell C S c y = (E Q : Elements) → Fits C S E Q → Q.cell c y ≡ false

-- of parts that are gone and cells that are cut: what is left, a cell going with its part
abbrev pub left_of : Signature → (ℕ → ℕ → Bool) → (ℕ → ℕ → Bool) → Elements
left_of C gone cut = record { part = λ object x. not (gone object x); cell = λ c x. not (gone (holder_of C c) x) && not (cut c x) }

-- nothing more has to go
pub record IsClosed (C : Signature) (S : Applied) (gone cut right_gone right_cut : ℕ → ℕ → Bool) : Type 0 where
  pub host_arrows : (a : ℕ) (ends : ArrowEnds) (x : ℕ) → slice_get C.arrows a ≡ Some ends → Has S.host ends.source.0 x
      → gone ends.target.0 (S.host.value a x) ≡ true → gone ends.source.0 x ≡ true
  pub right_arrows : (a : ℕ) (ends : ArrowEnds) (y : ℕ) → slice_get C.arrows a ≡ Some ends → Has S.right ends.source.0 y
      → right_gone ends.target.0 (S.right.value a y) ≡ true → right_gone ends.source.0 y ≡ true
  pub deleted : (object x : ℕ) → object < C.objects → Has S.left object x → ((z : ℕ) → Has S.keep object z → S.l object z ≢ x) → gone object (S.m object x) ≡ true
  pub parts : (object z : ℕ) → object < C.objects → Has S.keep object z → gone object (S.m object (S.l object z)) ≡ right_gone object (S.r object z)
  pub set_cells : (c : ℕ) (ends : AttrEnds) (z : ℕ) → slice_get C.attributes c ≡ Some ends → Has S.keep ends.object.0 z
      → S.set c (S.r ends.object.0 z) ≡ true → cut c (S.m ends.object.0 (S.l ends.object.0 z)) ≡ true
  pub cells : (c : ℕ) (ends : AttrEnds) (z : ℕ) → slice_get C.attributes c ≡ Some ends → Has S.keep ends.object.0 z
      → S.set c (S.r ends.object.0 z) ≡ false → cut c (S.m ends.object.0 (S.l ends.object.0 z)) ≡ right_cut c (S.r ends.object.0 z)
  pub unset : (c y : ℕ) → right_cut c y ≡ true → S.set c y ≡ false

-- what is gone or cut, no fitting pair has
pub record IsExcluded (C : Signature) (S : Applied) (gone cut right_gone right_cut : ℕ → ℕ → Bool) : Type 0 where
  pub parts : (object x : ℕ) → object < C.objects → Has S.host object x → gone object x ≡ true → NoPart C S object x
  pub cells : (c : ℕ) (ends : AttrEnds) (x : ℕ) → slice_get C.attributes c ≡ Some ends → Has S.host ends.object.0 x → cut c x ≡ true → NoCell C S c x
  pub right_parts : (object y : ℕ) → object < C.objects → Has S.right object y → right_gone object y ≡ true → NoRightPart C S object y
  pub right_cells : (c : ℕ) (ends : AttrEnds) (y : ℕ) → slice_get C.attributes c ≡ Some ends → Has S.right ends.object.0 y → right_cut c y ≡ true → NoRightCell C S c y
