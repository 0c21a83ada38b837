-- Sub-instances as sets of elements, and partial homomorphisms. The elements of an instance are its parts and its cells, blank or not.
use Rattle.std.specs.Prelude.{◌≡◌, ◌<◌, ℕ, Bool, true, cond, filter, Some, None, slice_get}
use Rattle.rw_schema.specs.declared.signature.ArrowEnds.{ArrowEnds}
use Rattle.rw_schema.specs.declared.signature.AttrEnds.{AttrEnds}
use Rattle.rw_schema.specs.Signature.{Signature}
use Rattle.rw_spec.specs.Homomorphism.{IsHomomorphism}
use Rattle.rw_spec.specs.Instance.{Instance, Has}
use Rattle.rw_spec.specs.Natural.{Map}

-- a set of elements: of an object at a name, whether the part is in it; of an attribute at a name of its object, whether the cell is
pub record Elements : Type 0 where
  pub part : ℕ → ℕ → Bool
  pub cell : ℕ → ℕ → Bool

-- with each part its values are in the set, and with each cell its part
pub record IsSubInstance (C : Signature) (X : Instance) (E : Elements) : Type 0 where
  pub values : (a : ℕ) (ends : ArrowEnds) (x : ℕ) → slice_get C.arrows a ≡ Some ends → Has X ends.source.0 x
      → E.part ends.source.0 x ≡ true → E.part ends.target.0 (X.value a x) ≡ true
  pub holders : (c : ℕ) (ends : AttrEnds) (x : ℕ) → slice_get C.attributes c ≡ Some ends → Has X ends.object.0 x
      → E.cell c x ≡ true → E.part ends.object.0 x ≡ true

-- the set as an instance, in which the other cells are blank
abbrev pub restricted : Instance → Elements → Instance
restricted X E = record {
  names = λ object. filter (E.part object) (X.names object);
  value = X.value;
  cell = λ c x. cond (E.cell c x) (X.cell c x) None;
}

-- a homomorphism from a sub-instance, its domain
pub record IsPartialHomomorphism (C : Signature) (X Y : Instance) (E : Elements) (f : Map) : Type 0 where
  pub domain : IsSubInstance C X E
  pub homomorphism : IsHomomorphism C (restricted X E) Y f

-- each element of the one set is in the other
pub record IsInside (C : Signature) (X : Instance) (E other : Elements) : Type 0 where
  pub parts : (object x : ℕ) → object < C.objects → Has X object x → E.part object x ≡ true → other.part object x ≡ true
  pub cells : (c : ℕ) (ends : AttrEnds) (x : ℕ) → slice_get C.attributes c ≡ Some ends → Has X ends.object.0 x → E.cell c x ≡ true → other.cell c x ≡ true

-- the two sets have the same elements of the instance
pub record AreSameElements (C : Signature) (X : Instance) (E other : Elements) : Type 0 where
  pub parts : (object x : ℕ) → object < C.objects → Has X object x → E.part object x ≡ other.part object x
  pub cells : (c : ℕ) (ends : AttrEnds) (x : ℕ) → slice_get C.attributes c ≡ Some ends → Has X ends.object.0 x → E.cell c x ≡ other.cell c x
