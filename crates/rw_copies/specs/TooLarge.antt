-- When a step would give names past the greatest one, and at which object.
use Rattle.std.specs.Prelude.{◌≡◌, ◌<◌, ◌≤◌, ◌+◌, ◌⊎◌, ℕ, List, length, Contains, Some, slice_get}
use Rattle.rw_schema.specs.declared.ids.ArrowId.{ArrowId}
use Rattle.rw_schema.specs.declared.signature.ArrowEnds.{ArrowEnds}
use Rattle.rw_schema.specs.Signature.{Signature, IsPath}
use Rattle.rw_spec.specs.Instance.{Instance}
use Rattle.rw_spec.specs.Natural.{Map}
use Rattle.rw_spec.specs.Redex.{Redex}
use Rattle.rw_copies.specs.CopyLists.{more_parts}
use Rattle.rw_copies.specs.CopyNames.{IsCopyContext}
use Rattle.rw_copies.specs.Order.{ArePlacedSoFar}

-- the next name after the copies and the new parts of the right side would be past the limit
abbrev pub IsPast : ℕ → (ℕ → ℕ) → (ℕ → ℕ) → ℕ → Type 0
IsPast limit last more object = limit < last object + more object

-- such an object from which no path leads to another
abbrev pub IsLowestPast : Signature → ℕ → (ℕ → ℕ) → (ℕ → ℕ) → ℕ → Type 0
IsLowestPast C limit last more object =
    (object < C.objects) × IsPast limit last more object
    × ((to : ℕ) (path : List ArrowId) → 0 < length path → IsPath C object path to → IsPast limit last more to → ⊥)

-- the context would give such names, and this is the least such object
pub record IsTooLargeAt (C : Signature) (R : Redex) (limit : ℕ) (next more : ℕ → ℕ) (object : ℕ) : Type 0 where
  pub context : Instance
  pub k : Map
  pub e : Map
  pub last : ℕ → ℕ
  pub is_context : IsCopyContext C R next context k e last
  pub lowest : IsLowestPast C limit last more object
  pub least : (other : ℕ) → IsLowestPast C limit last more other → object ≤ other

-- the object has not been placed, its arrows lead to objects that have been, and over these its copies are too many
pub record IsCountedPast (C : Signature) (R : Redex) (limit : ℕ) (next more : ℕ → ℕ) (before : List ℕ) (D : Instance) (e : Map) (object : ℕ) : Type 0 where
  pub known : object < C.objects
  pub new : Contains before object → ⊥
  pub targets : (a : ℕ) (ends : ArrowEnds) → slice_get C.arrows a ≡ Some ends → ends.source.0 ≡ object → Contains before ends.target.0
  pub many : limit < next object + length (more_parts C R D e object) + more object

-- a path that is not empty leads from the object to one of the list
abbrev pub LeadsTo : Signature → List ℕ → ℕ → Type 0
LeadsTo C past object = (to : ℕ) × (path : List ArrowId) × (0 < length path) × IsPath C object path to × Contains past to

-- each object has been placed within the limit, or counted past it, or leads to one that was counted past it
pub record AreCounted (C : Signature) (R : Redex) (limit : ℕ) (next more : ℕ → ℕ) (before past : List ℕ) (D : Instance) (k e : Map) (last : ℕ → ℕ) : Type 0 where
  pub placed : ArePlacedSoFar C R next before D k e last
  pub within : (object : ℕ) → Contains before object → last object + more object ≤ limit
  pub counted : (object : ℕ) → Contains past object → IsCountedPast C R limit next more before D e object
  pub each : (object : ℕ) → object < C.objects → Contains before object ⊎ (Contains past object ⊎ LeadsTo C past object)
