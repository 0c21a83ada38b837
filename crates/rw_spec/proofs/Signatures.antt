-- The ends of a schema's arrows and attributes.
use Rattle.std.proofs.Common.{◌≡◌, ◌∙◌, ℕ, Some, map, ap, slice_get, option_map}
use Rattle.std.proofs.lemmas.Option.{slice_get-map, get_or_from_slice_get}
use Rattle.rw_schema.specs.declared.signature.ArrowEnds.{ArrowEnds}
use Rattle.rw_schema.specs.declared.signature.AttrEnds.{AttrEnds}
use Rattle.rw_schema.specs.Signature.{Signature, source_of, holder_of}
use Rattle.rw_spec.specs.Ends.{target_of}

-- the source of an arrow is the source in its ends
pub source_is : (C : Signature) (a : ℕ) (ends : ArrowEnds) → slice_get C.arrows a ≡ Some ends → source_of C a ≡ ends.source.0
source_is C a ends there =
    let source = λ (each : ArrowEnds). each.source.0 in
    get_or_from_slice_get (map source C.arrows) a ends.source.0 0 (slice_get-map source C.arrows a ∙ ap (option_map source) there)

-- the object of an attribute is the object in its ends
pub holder_is : (C : Signature) (c : ℕ) (ends : AttrEnds) → slice_get C.attributes c ≡ Some ends → holder_of C c ≡ ends.object.0
holder_is C c ends there =
    let object = λ (each : AttrEnds). each.object.0 in
    get_or_from_slice_get (map object C.attributes) c ends.object.0 0 (slice_get-map object C.attributes c ∙ ap (option_map object) there)

-- the target of an arrow is the target in its ends
pub target_is : (C : Signature) (a : ℕ) (ends : ArrowEnds) → slice_get C.arrows a ≡ Some ends → target_of C a ≡ ends.target.0
target_is C a ends there =
    let target = λ (each : ArrowEnds). each.target.0 in
    get_or_from_slice_get (map target C.arrows) a ends.target.0 0 (slice_get-map target C.arrows a ∙ ap (option_map target) there)
