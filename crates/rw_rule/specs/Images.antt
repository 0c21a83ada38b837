-- The images of a map between patterns.
use Rattle.std.specs.Prelude.{◌==◌, ℕ, Bool, List}
use Rattle.std.specs.List.{list_any, range_with_len}
use Rattle.rw_schema.specs.First.{all_in}
use Rattle.rw_schema.specs.RowLists.{list_at}
use Rattle.rw_spec.specs.Distinct.{are_distinct}
use Rattle.rw_pattern.specs.PatternLists.{PatternLists, size_of}

-- the parts of an object
abbrev pub parts_of : PatternLists → ℕ → List ℕ
parts_of pattern object = range_with_len 0 (size_of pattern object)

-- the part is the image of a part
abbrev pub is_image : List (List ℕ) → ℕ → ℕ → Bool
is_image images object part = list_any (λ image. image == part) (list_at images object)

-- the images of an object's parts are different
abbrev pub has_distinct_images : List (List ℕ) → ℕ → ℕ → Bool
has_distinct_images images object size = are_distinct (list_at images object)

-- no two parts of one object have one image; lists beyond the objects are not looked at
abbrev pub is_injective : PatternLists → List (List ℕ) → Bool
is_injective from images = all_in (has_distinct_images images) 0 from.sizes
