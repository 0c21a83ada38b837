-- The objects that a rule or a watch lists as monic.
use Rattle.std.specs.Prelude.{◌==◌, ℕ, Bool, length, map, List, [], Option, Some, None, option_map, position, Result}
use Rattle.std.specs.List.{list_any, range_with_len}
use Rattle.std.specs.Str.{bytes_eq}
use Rattle.serde_json.specs.Data.{Data}
use Rattle.rw_schema.specs.declared.ids.ObjectId.{ObjectId}
use Rattle.rw_doc.specs.declared.fault.DocFault.{DocFault}
use Rattle.rw_doc.specs.declared.piece.Piece.{Piece}
use Rattle.rw_doc.specs.Chain.{all_some, some_or}
use Rattle.rw_doc.specs.Json.{as_texts}
use Rattle.rw_doc.specs.Pieces.{fault_in}

-- the names that are written, or none
abbrev pub texts_or_none : Option Data → Option (List (List ℕ))
texts_or_none None = Some []
texts_or_none (Some value) = as_texts value

-- the object with the name
abbrev pub object_named : List (List ℕ) → List ℕ → Option ObjectId
object_named objects name = option_map (λ number. record { 0 = number }) (position (bytes_eq name) objects)

-- of each object whether it is listed
abbrev pub marks_of : ℕ → List ObjectId → List Bool
marks_of objects listed = map (λ object. list_any (λ (other : ObjectId). other.0 == object) listed) (range_with_len 0 objects)

-- of each object whether its name is listed, where each name is that of an object
abbrev pub marks_named : List (List ℕ) → List (List ℕ) → Option (List Bool)
marks_named objects names = option_map (marks_of (length objects)) (all_some (object_named objects) names)

-- of each object whether its name is listed: code 6
abbrev pub read_monic : List (List ℕ) → Piece → List (List ℕ) → Result (List Bool) DocFault
read_monic objects piece names = some_or (fault_in piece 6) (marks_named objects names)
