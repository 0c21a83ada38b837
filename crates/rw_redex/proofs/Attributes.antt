-- The attributes of a schema, and the objects that they belong to.
use Rattle.std.proofs.Common.{◌≡◌, ℕ, ◌<◌, Some, List, map, length, get_or, slice_get, option_map, refl, sym, ap, ◌∙◌}
use Rattle.std.proofs.lemmas.Option.{slice_get-map, slice_get_read}
use Rattle.rw_schema.specs.declared.ids.ObjectId.{ObjectId}
use Rattle.rw_schema.specs.declared.parts.AttrDef.{AttrDef}
use Rattle.rw_schema.specs.declared.signature.AttrEnds.{AttrEnds}
use Rattle.rw_schema.specs.Presentation.{ends_of_attribute}
use Rattle.rw_schema.specs.Signature.{Signature}
use Rattle.rw_schema.proofs.Paths.{number_at}
use Rattle.rw_pattern.specs.PatternLists.{PatternLists, holder, holders_in}

-- the ends of the attribute that stands at a place of the list
pub attribute_at : (listed attributes : List AttrDef) (place : ℕ) (attribute : AttrDef) → listed ≡ attributes → place < length listed
    → attribute ≡ get_or listed place attribute → slice_get (map ends_of_attribute attributes) place ≡ Some (ends_of_attribute attribute)
attribute_at listed attributes place attribute same within is =
    ap (λ list. slice_get (map ends_of_attribute list) place) (sym same) ∙ slice_get-map ends_of_attribute listed place
    ∙ ap (option_map ends_of_attribute) (slice_get_read listed (length listed) place attribute refl within is)

-- the object that a pattern has for an attribute is the one in the attribute's ends
pub holder_at : (C : Signature) (pattern : PatternLists) (attr : ℕ) (ends : AttrEnds) → pattern.holders ≡ holders_in C → slice_get C.attributes attr ≡ Some ends
    → holder pattern attr ≡ ends.object.0
holder_at C pattern attr ends holders there =
    let object : slice_get (holders_in C) attr ≡ Some ends.object =
    slice_get-map (λ (ends : AttrEnds). ends.object) C.attributes attr ∙ ap (option_map (λ (ends : AttrEnds). ends.object)) there in
    number_at (λ (object : ObjectId). object.0) pattern.holders attr ends.object (rw holders object)
