-- Orders of the objects in which arrows point backwards.
use Rattle.std.specs.Prelude.{◌≡◌, ◌<◌, ℕ, List, length, Contains, Option, Some, None, slice_get}
use Rattle.rw_schema.specs.declared.ids.ArrowId.{ArrowId}
use Rattle.rw_schema.specs.declared.ids.ObjectId.{ObjectId}
use Rattle.rw_schema.specs.declared.signature.ArrowEnds.{ArrowEnds}
use Rattle.rw_schema.specs.Signature.{Signature, IsPath}

-- a path that is not empty leads from an object to itself
pub record HasCycle (C : Signature) : Type 0 where
  pub object : ℕ
  pub path : List ArrowId
  pub long : 0 < length path
  pub leads : IsPath C object path object

-- the object stands in the list before the other
pub record IsBefore (order : List ObjectId) (first second : ℕ) : Type 0 where
  pub first_place : ℕ
  pub second_place : ℕ
  pub first_is : slice_get order first_place ≡ Some (record { 0 = first })
  pub second_is : slice_get order second_place ≡ Some (record { 0 = second })
  pub before : first_place < second_place

-- all objects, each once, and the target of each arrow before its source
pub record IsTopological (C : Signature) (order : List ObjectId) : Type 0 where
  pub all : (object : ℕ) → object < C.objects → Contains order (record { 0 = object })
  pub long : length order ≡ C.objects
  pub known : (k : ℕ) (object : ObjectId) → slice_get order k ≡ Some object → object.0 < C.objects
  pub once : (i j : ℕ) (object : ObjectId) → slice_get order i ≡ Some object → slice_get order j ≡ Some object → i ≡ j
  pub targets_first : (a : ℕ) (ends : ArrowEnds) → slice_get C.arrows a ≡ Some ends → IsBefore order ends.target.0 ends.source.0

-- such an order, which is there exactly where no arrows lead round a cycle
abbrev pub OrdersObjects : Signature → Option (List ObjectId) → Type 0
OrdersObjects C (Some order) = IsTopological C order × ¬ HasCycle C
OrdersObjects C None = HasCycle C
