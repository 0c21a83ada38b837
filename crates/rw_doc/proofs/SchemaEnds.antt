-- The ends of a schema's arrows and attributes, in its signature.
use Rattle.std.proofs.Common.{◌≡◌, ◌∙◌, ℕ, Some, ap, slice_get, option_map}
use Rattle.std.proofs.lemmas.Option.{slice_get-map}
use Rattle.rw_schema.specs.declared.parts.ArrowDef.{ArrowDef}
use Rattle.rw_schema.specs.declared.parts.AttrDef.{AttrDef}
use Rattle.rw_schema.specs.Presentation.{Presentation, signature_of, ends_of_arrow, ends_of_attribute}
use Rattle.rw_schema.specs.Signature.{source_of, holder_of}
use Rattle.rw_spec.specs.Ends.{target_of}
use Rattle.rw_spec.proofs.Signatures.{source_is, holder_is, target_is}

-- the source of an arrow of a schema
pub arrow_source : (schema : Presentation) (a : ℕ) (arrow : ArrowDef) → slice_get schema.arrows a ≡ Some arrow → source_of (signature_of schema) a ≡ arrow.source.0
arrow_source schema a arrow there =
    source_is (signature_of schema) a (ends_of_arrow arrow) (slice_get-map ends_of_arrow schema.arrows a ∙ ap (option_map ends_of_arrow) there)

-- the target of an arrow of a schema
pub arrow_target : (schema : Presentation) (a : ℕ) (arrow : ArrowDef) → slice_get schema.arrows a ≡ Some arrow → target_of (signature_of schema) a ≡ arrow.target.0
arrow_target schema a arrow there =
    target_is (signature_of schema) a (ends_of_arrow arrow) (slice_get-map ends_of_arrow schema.arrows a ∙ ap (option_map ends_of_arrow) there)

-- the object of an attribute of a schema
pub attribute_holder : (schema : Presentation) (c : ℕ) (attribute : AttrDef) → slice_get schema.attributes c ≡ Some attribute
    → holder_of (signature_of schema) c ≡ attribute.object.0
attribute_holder schema c attribute there =
    holder_is (signature_of schema) c (ends_of_attribute attribute) (slice_get-map ends_of_attribute schema.attributes c ∙ ap (option_map ends_of_attribute) there)
