-- Parts of patterns: tests of them, their images under a map, and where an arrow leads from them.
use Rattle.std.proofs.Common.{◌≡◌, ◌∙◌, ℕ, ◌<◌, Bool, true, List, length, get_or, Some, slice_get, slice_index, zero-add}
use Rattle.std.specs.List.{Contains, list_any}
use Rattle.std.proofs.lemmas.List.{get_or_default}
use Rattle.std.proofs.lemmas.List.Elements.{Contains-get_or}
use Rattle.std.proofs.lemmas.List.Folds.{Any-from_list_any, list_any_at}
use Rattle.std.proofs.lemmas.List.FromFn.{length-range_with_len, get_or-range_with_len}
use Rattle.std.proofs.lemmas.Option.{slice_get-get_or}
use Rattle.rw_schema.specs.declared.signature.ArrowEnds.{ArrowEnds}
use Rattle.rw_schema.specs.RowLists.{list_at}
use Rattle.rw_schema.specs.Signature.{Signature}
use Rattle.rw_spec.proofs.Look.{contains_found, found_contained}
use Rattle.rw_pattern.specs.MapFaults.{image_of, has_map_shape}
use Rattle.rw_pattern.specs.PatternLists.{PatternLists, size_of}
use Rattle.rw_pattern.proofs.Maps.{images_long}
use Rattle.rw_pattern.proofs.PartNames.{part_below}
use Rattle.rw_pattern.proofs.Shapes.{IsPattern, row_long, image_within}
use Rattle.rw_rule.specs.Images.{parts_of, is_image}

-- a part that passes a test that some part passes
pub part_passes : (pattern : PatternLists) (object : ℕ) (test : ℕ → Bool) → list_any test (parts_of pattern object) ≡ true
    → (part : ℕ) × (part < size_of pattern object) × (test part ≡ true)
part_passes pattern object test some =
    let found = Any-from_list_any test (parts_of pattern object) some in
    (found.1, part_below pattern object found.1 (found.0, found.2, found.3), found.4)

-- some part passes a test that a part passes
pub some_passes : (pattern : PatternLists) (object : ℕ) (test : ℕ → Bool) (part : ℕ) → part < size_of pattern object → test part ≡ true
    → list_any test (parts_of pattern object) ≡ true
some_passes pattern object test part there passes =
    let size = size_of pattern object in
    let is : get_or (parts_of pattern object) part 0 ≡ part = get_or-range_with_len 0 size part 0 there ∙ zero-add part in
    list_any_at test (parts_of pattern object) part 0 (rw (length-range_with_len 0 size) there) (rw is passes)

-- a part that is an image is the image of a part
pub image_from : (from : PatternLists) (images : List (List ℕ)) (object part : ℕ) → has_map_shape from images ≡ true → object < length from.sizes
    → is_image images object part ≡ true → (kept : ℕ) × (kept < size_of from object) × (image_of images object kept ≡ part)
image_from from images object part shaped known found =
    let list = list_at images object in
    let there : Contains list part = contains_found list part found in
    (there.0, rw (← images_long from images object shaped known) there.1, get_or_default list there.0 0 part there.1 ∙ there.2)

-- the image of a part is an image
pub image_found : (from : PatternLists) (images : List (List ℕ)) (object kept : ℕ) → has_map_shape from images ≡ true → object < length from.sizes
    → kept < size_of from object → is_image images object (image_of images object kept) ≡ true
image_found from images object kept shaped known there =
    let list = list_at images object in
    found_contained list (image_of images object kept) (Contains-get_or list kept 0 (rw (images_long from images object shaped known) there))

-- where an arrow leads from a part is a part
pub value_part : (C : Signature) (pattern : PatternLists) (a : ℕ) (ends : ArrowEnds) (part : ℕ) → IsPattern C pattern
    → slice_get C.arrows a ≡ Some ends → part < size_of pattern ends.source.0 → slice_index (list_at pattern.rows a) part < size_of pattern ends.target.0
value_part C pattern a ends part is there part_there =
    let row = list_at pattern.rows a in
    let short : part < length row = rw (row_long C pattern a ends is there) part_there in
    image_within C pattern a ends part (slice_index row part) is there (slice_get-get_or row part 0 short)
