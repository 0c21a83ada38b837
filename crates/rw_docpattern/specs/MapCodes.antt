-- What may be wrong with the map that a value is, and with the objects that are listed, by the codes of docs/FORMAT.md.
use Rattle.std.specs.Prelude.{◌≡◌, ◌≤◌, ◌⊎◌, ◌≢◌, ℕ, false, Any, length, List, Option, Some, None, IsSomeAnd, slice_get}
use Rattle.serde_json.specs.Data.{Data}
use Rattle.rw_schema.specs.declared.signature.ArrowEnds.{ArrowEnds}
use Rattle.rw_schema.specs.RowLists.{list_at}
use Rattle.rw_schema.specs.Signature.{Signature}
use Rattle.rw_pattern.specs.MapFaults.{commutes_at, has_map_shape}
use Rattle.rw_pattern.specs.PatternLists.{PatternLists, size_of}
use Rattle.rw_doc.specs.Entries.{no_code}
use Rattle.rw_doc.specs.Numbers.{as_number_lists}
use Rattle.rw_doc.specs.declared.piece.Piece.{Piece}
use Rattle.rw_docpattern.specs.Codes.{TellsLeast, row}
use Rattle.rw_docpattern.specs.Maps.{read_map}
use Rattle.rw_docpattern.specs.Objects.{object_named, read_monic}

-- there is not one list for each object, or one image for each part
abbrev pub HasOtherImages : Signature → PatternLists → List (List ℕ) → Type 0
HasOtherImages C from images = (length images ≢ C.objects) ⊎ (has_map_shape from images ≡ false)

-- an image is no part of its object in the other pattern
abbrev pub HasImageBeyond : PatternLists → PatternLists → List (List ℕ) → Type 0
HasImageBeyond from to images =
    (object size part image : ℕ) × (slice_get from.sizes object ≡ Some size) × (slice_get (list_at images object) part ≡ Some image) × (size_of to object ≤ image)

-- the map does not commute with an arrow at a part
abbrev pub BreaksSquare : Signature → PatternLists → PatternLists → List (List ℕ) → Type 0
BreaksSquare C from to images =
    (arrow : ℕ) × (ends : ArrowEnds) × (part : ℕ) × (value : ℕ) × (slice_get C.arrows arrow ≡ Some ends) × (slice_get (list_at from.rows arrow) part ≡ Some value)
    × (commutes_at to images arrow ends part value ≡ false)

-- what may be wrong with a map from the one pattern to the other, by its lists of images, and what else may be
abbrev pub ImagesHave : Signature → PatternLists → PatternLists → (ℕ → Type 0) → Option (List (List ℕ)) → ℕ → Type 0
ImagesHave C from to Others images =
    row 2 (images ≡ None)
    (row 2 (IsSomeAnd images (HasOtherImages C from))
    (row 8 (IsSomeAnd images (HasImageBeyond from to))
    (row 11 (IsSomeAnd images (BreaksSquare C from to))
    Others)))

-- what may be wrong with the map that a value is
abbrev pub MapHas : Signature → PatternLists → PatternLists → Data → ℕ → Type 0
MapHas C from to value = ImagesHave C from to no_code (as_number_lists value)

abbrev pub FirstMapFault : Type 0
FirstMapFault = (C : Signature) (piece : Piece) (from to : PatternLists) (value : Data) → TellsLeast piece (MapHas C from to value) (read_map C piece from to value)

-- what may be wrong with the names of monic objects: one of them is none of an object's
abbrev pub MonicHas : List (List ℕ) → List (List ℕ) → ℕ → Type 0
MonicHas objects names = row 6 (Any (λ name. object_named objects name ≡ None) names) no_code

abbrev pub FirstMonicFault : Type 0
FirstMonicFault = (objects : List (List ℕ)) (piece : Piece) (names : List (List ℕ)) → TellsLeast piece (MonicHas objects names) (read_monic objects piece names)
