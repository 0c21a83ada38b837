-- The images of a condition's map, before its pattern is known to be one.
use Rattle.std.specs.Prelude.{◌==◌, ℕ, Bool, ◌&&◌, nat_lt, length, slice_index, List, Result, Ok}
use Rattle.std.specs.List.{list_all}
use Rattle.rw_schema.specs.First.{all_in}
use Rattle.rw_schema.specs.RowLists.{list_at}
use Rattle.rw_schema.specs.Signature.{Signature}
use Rattle.rw_pattern.specs.MapFaults.{has_map_shape}
use Rattle.rw_pattern.specs.PatternLists.{PatternLists}
use Rattle.rw_doc.specs.declared.fault.DocFault.{DocFault}
use Rattle.rw_doc.specs.declared.piece.Piece.{Piece}
use Rattle.rw_doc.specs.Chain.{checked}
use Rattle.rw_doc.specs.Pieces.{fault_in}

-- there is one list for each object, with one image for each part of the left side
abbrev pub has_lists : Signature → PatternLists → List (List ℕ) → Bool
has_lists C left images = length images == C.objects && has_map_shape left images

-- each image of the object's parts is below the number of its parts, by these numbers
abbrev pub are_below : List ℕ → List (List ℕ) → ℕ → Bool
are_below sizes images object = list_all (λ image. nat_lt image (slice_index sizes object)) (list_at images object)

-- each image of a part of the left side is a part, where objects have these numbers of parts
abbrev pub are_images_there : List ℕ → PatternLists → List (List ℕ) → Bool
are_images_there sizes left images = all_in (λ object size. are_below sizes images object) 0 left.sizes

-- the images of the left side's parts among so many parts of each object: codes 2 and 8
abbrev pub read_images : Signature → Piece → PatternLists → List ℕ → List (List ℕ) → Result (List (List ℕ)) DocFault
read_images C piece left sizes images =
    checked (fault_in piece 2) (has_lists C left images) (checked (fault_in piece 8) (are_images_there sizes left images) (Ok images))
