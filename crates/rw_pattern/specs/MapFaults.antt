-- When lists of images are a map of patterns, and the first fault of those that are none.
use Rattle.std.specs.Prelude.{◌≡◌, ◌≤◌, ◌<◌, ◌==◌, ℕ, Bool, ◌&&◌, nat_le, nat_lt, length, slice_index, List, Option, Some, None, Result, Ok, Err}
use Rattle.rw_schema.specs.declared.signature.ArrowEnds.{ArrowEnds}
use Rattle.rw_schema.specs.First.{or_else, first_in, fault_unless, all_in}
use Rattle.rw_schema.specs.RowLists.{list_at}
use Rattle.rw_schema.specs.Signature.{Signature}
use Rattle.rw_spec.specs.Natural.{Map, IsNatural}
use Rattle.rw_pattern.specs.PatternLists.{PatternLists, size_of, instance_of_pattern}
use Rattle.rw_pattern.specs.declared.map_fault.MapFault.{MapFault}
use Rattle.rw_pattern.specs.declared.map_fault.MapFault.TheVariants.{Shape, Range, NotNatural}

-- the image of a part
abbrev pub image_of : List (List ℕ) → Map
image_of images object part = slice_index (list_at images object) part

-- there is one image for each part of the object
abbrev pub has_images : List (List ℕ) → ℕ → ℕ → Bool
has_images images object size = length (list_at images object) == size

-- there is a list for each object, with one image for each part; lists beyond the objects are not looked at
abbrev pub has_map_shape : PatternLists → List (List ℕ) → Bool
has_map_shape from images = nat_le (length from.sizes) (length images) && all_in (has_images images) 0 from.sizes

-- the first part of the object whose image is no part of the other pattern
abbrev pub image_fault : PatternLists → List (List ℕ) → ℕ → ℕ → Option MapFault
image_fault to images object size =
    first_in (λ part image. fault_unless (nat_lt image (size_of to object)) (Range (record { 0 = object }) part)) 0 (list_at images object)

-- the map commutes with the arrow at the part
abbrev pub commutes_at : PatternLists → List (List ℕ) → ℕ → ArrowEnds → ℕ → ℕ → Bool
commutes_at to images arrow ends part value =
    image_of images ends.target.0 value == slice_index (list_at to.rows arrow) (image_of images ends.source.0 part)

-- the first part at which the map does not commute with the arrow
abbrev pub square_fault : PatternLists → PatternLists → List (List ℕ) → ℕ → ArrowEnds → Option MapFault
square_fault from to images arrow ends =
    first_in (λ part value. fault_unless (commutes_at to images arrow ends part value) (NotNatural (record { 0 = arrow }) part)) 0 (list_at from.rows arrow)

-- why the images are no map from the one pattern to the other: the first condition that fails, at the least place
abbrev pub map_fault : Signature → PatternLists → PatternLists → List (List ℕ) → Option MapFault
map_fault C from to images =
    or_else (fault_unless (has_map_shape from images) Shape)
    (or_else (first_in (image_fault to images) 0 from.sizes)
    (first_in (square_fault from to images) 0 C.arrows))

-- one image for each part of the one pattern, and the map that they are is natural; lists beyond the objects are not looked at
pub record IsMapOf (C : Signature) (from to : PatternLists) (images : List (List ℕ)) : Type 0 where
  pub lists : length from.sizes ≤ length images
  pub each : (object : ℕ) → object < length from.sizes → length (list_at images object) ≡ size_of from object
  pub natural : IsNatural C (instance_of_pattern from) (instance_of_pattern to) (image_of images)

-- what a check of the images answers
abbrev pub ChecksMap : Signature → PatternLists → PatternLists → List (List ℕ) → Result Unit MapFault → Type 0
ChecksMap C from to images (Ok done) = map_fault C from to images ≡ None
ChecksMap C from to images (Err Shape) = map_fault C from to images ≡ Some Shape
ChecksMap C from to images (Err (Range object part)) = map_fault C from to images ≡ Some (Range object part)
ChecksMap C from to images (Err (NotNatural arrow part)) = map_fault C from to images ≡ Some (NotNatural arrow part)
