-- The names of a final pullback complement: the first part over a host part keeps its name, and the others take next names.
use Rattle.std.specs.Prelude.{◌≡◌, ◌≢◌, ◌<◌, ◌≤◌, ℕ, Some, slice_get}
use Rattle.rw_schema.specs.declared.signature.ArrowEnds.{ArrowEnds}
use Rattle.rw_schema.specs.Signature.{Signature}
use Rattle.rw_spec.specs.Instance.{Instance, Has}
use Rattle.rw_spec.specs.Natural.{Map, SameOn}
use Rattle.rw_spec.specs.Redex.{Redex}
use Rattle.rw_spec.specs.Same.{AreSame}
use Rattle.rw_copies.specs.FinalComplement.{IsFinalComplement}
use Rattle.rw_copies.specs.Copying.{IsOutside}

-- the first arrow, in the order of the arrows, that leads from v and w to two parts
pub record IsFirstDifference (C : Signature) (D : Instance) (object v w a : ℕ) (ends : ArrowEnds) : Type 0 where
  pub there : slice_get C.arrows a ≡ Some ends
  pub leaves : ends.source.0 ≡ object
  pub differ : D.value a v ≢ D.value a w
  pub same_before : (b : ℕ) (other : ArrowEnds) → b < a → slice_get C.arrows b ≡ Some other → other.source.0 ≡ object → D.value b v ≡ D.value b w

-- names at one object, from the next name on to the last: a name below the next one is the host part's own, and it is there where
-- any part lies over the host part; the others are the next names in turn, by ascending host part, then in the order of the kept
-- parts or of the first arrow that tells two parts apart
pub record AreCopyNamesAt (C : Signature) (R : Redex) (next : ℕ) (D : Instance) (k e : Map) (last : ℕ) (object : ℕ) : Type 0 where
  pub grows : next ≤ last
  pub old : (v : ℕ) → Has D object v → v < next → e object v ≡ v
  pub below : (v : ℕ) → Has D object v → v < last
  pub all : (v : ℕ) → next ≤ v → v < last → Has D object v
  pub first : (v : ℕ) → Has D object v → Has D object (e object v)
  pub ascend : (v w : ℕ) → Has D object v → Has D object w → next ≤ v → v < w → e object v ≤ e object w
  pub kept_order : (y z : ℕ) → Has R.keep object y → Has R.keep object z → e object (k object y) ≡ e object (k object z) → k object y < k object z → y < z
  pub copy_order : (v w a : ℕ) (ends : ArrowEnds) → Has D object v → Has D object w → IsOutside R object (e object v) → e object v ≡ e object w → v < w
      → IsFirstDifference C D object v w a ends → D.value a v < D.value a w

-- the names at each object
abbrev pub AreCopyNames : Signature → Redex → (ℕ → ℕ) → Instance → Map → Map → (ℕ → ℕ) → Type 0
AreCopyNames C R next D k e last = (object : ℕ) → object < C.objects → AreCopyNamesAt C R (next object) D k e (last object) object

-- the context of a sesqui-pushout step: a final complement under its names, and the next names after the copies
pub record IsCopyContext (C : Signature) (R : Redex) (next : ℕ → ℕ) (D : Instance) (k e : Map) (last : ℕ → ℕ) : Type 0 where
  pub final : IsFinalComplement C R D k e
  pub names : AreCopyNames C R next D k e last

-- two contexts are equal: as instances, and their maps and next names
pub record AreEqualContexts (C : Signature) (R : Redex) (D : Instance) (k e : Map) (last : ℕ → ℕ) (E : Instance) (j i : Map) (end : ℕ → ℕ) : Type 0 where
  pub same : AreSame C D E
  pub from_keep : SameOn C R.keep k j
  pub to_host : SameOn C D e i
  pub next : (object : ℕ) → object < C.objects → last object ≡ end object
