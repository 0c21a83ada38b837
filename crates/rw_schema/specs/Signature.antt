-- A schema without its names: what an instance of it depends on.
use Rattle.std.specs.Prelude.{◌≡◌, ◌<◌, ℕ, List, [], ◌∷◌, map, slice_index, slice_get, Some}
use Rattle.rw_schema.specs.declared.ids.ArrowId.{ArrowId}
use Rattle.rw_schema.specs.declared.parts.Equation.{Equation}
use Rattle.rw_schema.specs.declared.signature.ArrowEnds.{ArrowEnds}
use Rattle.rw_schema.specs.declared.signature.AttrEnds.{AttrEnds}

-- a presented category with attributes, where objects, arrows and attributes are numbers
pub record Signature : Type 0 where
  pub objects : ℕ
  pub arrows : List ArrowEnds
  pub attributes : List AttrEnds
  pub equations : List Equation

-- the object that an arrow leaves
abbrev pub source_of : Signature → ℕ → ℕ
source_of C arrow = slice_index (map (λ ends. ends.source.0) C.arrows) arrow

-- the object that an attribute belongs to
abbrev pub holder_of : Signature → ℕ → ℕ
holder_of C attribute = slice_index (map (λ ends. ends.object.0) C.attributes) attribute

-- the path leads from one object to another: each arrow leaves the object that the one before it enters
abbrev pub IsPath : Signature → ℕ → List ArrowId → ℕ → Type 0
IsPath C from [] to = from ≡ to
IsPath C from (arrow ∷ path) to =
    (ends : ArrowEnds) × (slice_get C.arrows arrow.0 ≡ Some ends) × (ends.source.0 ≡ from) × IsPath C ends.target.0 path to

-- each end of an arrow and of an attribute is an object, and the two sides of each equation lead from its object to one object
pub record IsCategory (C : Signature) : Type 0 where
  pub sources : (a : ℕ) (ends : ArrowEnds) → slice_get C.arrows a ≡ Some ends → ends.source.0 < C.objects
  pub targets : (a : ℕ) (ends : ArrowEnds) → slice_get C.arrows a ≡ Some ends → ends.target.0 < C.objects
  pub holders : (c : ℕ) (ends : AttrEnds) → slice_get C.attributes c ≡ Some ends → ends.object.0 < C.objects
  pub starts : (e : ℕ) (equation : Equation) → slice_get C.equations e ≡ Some equation → equation.object.0 < C.objects
  pub paths : (e : ℕ) (equation : Equation) → slice_get C.equations e ≡ Some equation
      → (to : ℕ) × IsPath C equation.object.0 equation.left to × IsPath C equation.object.0 equation.right to
