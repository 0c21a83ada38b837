-- The texts of entries, behind the references that code has to them.
use Rattle.std.specs.Prelude.{ℕ, Bool, List, [], map, is_some, unwrap_or}
use Rattle.serde_json.specs.Data.{Data}
use Rattle.serde_json.specs.Find.{as_str}
use Rattle.serde_json.specs.View.{view}
use Rattle.rw_doc.specs.declared.arrows.ArrowTexts as arrows
use Rattle.rw_doc.specs.declared.attributes.AttributeTexts as attributes
use Rattle.rw_doc.specs.declared.equations.EquationTexts as equations
use Rattle.rw_doc.specs.Schemas.{ArrowTexts, AttributeTexts, EquationTexts}

abbrev pub texts_of_arrow : arrows.ArrowTexts → ArrowTexts
texts_of_arrow texts = record { name = texts.name.now; source = texts.source.now; target = texts.target.now }

abbrev pub texts_of_attribute : attributes.AttributeTexts → AttributeTexts
texts_of_attribute texts = record { name = texts.name.now; object = texts.object.now; kind = texts.kind }

-- the value is a text
abbrev pub is_text : Data → Bool
is_text value = is_some (as_str value)

-- the text that a value is
abbrev pub text_of : Data → List ℕ
text_of value = unwrap_or (as_str value) []

abbrev pub texts_of_equation : equations.EquationTexts → EquationTexts
texts_of_equation texts = record { object = texts.object.now; left = map text_of (map view texts.left.now); right = map text_of (map view texts.right.now) }
