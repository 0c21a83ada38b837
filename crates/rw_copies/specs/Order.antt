-- Orders in which each object comes after those that its arrows lead to, and what is known on the way.
use Rattle.std.specs.Prelude.{◌≡◌, ◌<◌, ◌==◌, ℕ, suc, true, cond, List, [], ◌∷◌, Contains, Some, slice_get}
use Rattle.rw_schema.specs.declared.ids.ObjectId.{ObjectId}
use Rattle.rw_schema.specs.declared.signature.ArrowEnds.{ArrowEnds}
use Rattle.rw_schema.specs.Signature.{Signature}
use Rattle.rw_spec.specs.Ascending.{ascends}
use Rattle.rw_spec.specs.Instance.{Instance}
use Rattle.rw_spec.specs.Natural.{Map}
use Rattle.rw_spec.specs.Redex.{Redex}
use Rattle.rw_copies.specs.CopyNames.{AreCopyNamesAt}
use Rattle.rw_copies.specs.CopyingAt.{IsCopyingAt}

-- each object of the list is new, and its arrows lead to objects before it
abbrev pub IsInOrder : Signature → List ℕ → List ℕ → Type 0
IsInOrder C before [] = Unit {0}
IsInOrder C before (object ∷ more) =
    (object < C.objects) × (Contains before object → ⊥)
    × ((a : ℕ) (ends : ArrowEnds) → slice_get C.arrows a ≡ Some ends → ends.source.0 ≡ object → Contains before ends.target.0) × IsInOrder C (object ∷ before) more

-- the first place of an object in an order
abbrev pub place_in : List ObjectId → ℕ → ℕ
place_in [] object = 0
place_in (x ∷ order) object = cond (x.0 == object) 0 (suc (place_in order object))

-- the objects of a list have their copies, under their names, which ascend; arrows from them lead to such objects
pub record ArePlacedSoFar (C : Signature) (R : Redex) (next : ℕ → ℕ) (before : List ℕ) (D : Instance) (k e : Map) (last : ℕ → ℕ) : Type 0 where
  pub at : (object : ℕ) → object < C.objects → Contains before object → IsCopyingAt C R D k e object
  pub named : (object : ℕ) → object < C.objects → Contains before object → AreCopyNamesAt C R (next object) D k e (last object) object
  pub ascend : (object : ℕ) → Contains before object → ascends (D.names object) ≡ true
  pub onward : (a : ℕ) (ends : ArrowEnds) → slice_get C.arrows a ≡ Some ends → Contains before ends.source.0 → Contains before ends.target.0
