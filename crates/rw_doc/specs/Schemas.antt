-- The schema that a JSON value is, or its first fault. The sections are read in the order in which they stand here, and the
-- entries of each in their order; within an entry the least code comes first.
use Rattle.std.specs.Prelude.{ℕ, Bool, not, ◌&&◌, nat_le, length, codes, List, [], ◌∷◌, Option, Some, None, option_and_then, option_map, Result, Ok, if◌then◌else◌, position}
use Rattle.std.specs.List.{list_any}
use Rattle.std.specs.Str.{bytes_eq}
use Rattle.serde_json.specs.Data.{Data}
use Rattle.serde_json.specs.Find.{as_str, get}
use Rattle.rw_schema.specs.declared.atom.Kind.{Kind}
use Rattle.rw_schema.specs.declared.atom.Kind.TheVariants as kinds
use Rattle.rw_schema.specs.declared.ids.ArrowId.{ArrowId}
use Rattle.rw_schema.specs.declared.ids.ObjectId.{ObjectId}
use Rattle.rw_schema.specs.declared.parts.ArrowDef.{ArrowDef}
use Rattle.rw_schema.specs.declared.parts.AttrDef.{AttrDef}
use Rattle.rw_schema.specs.declared.parts.Equation as parts
use Rattle.rw_schema.specs.declared.section.Section.{Section}
use Rattle.rw_schema.specs.declared.section.Section.TheVariants.{Schema, Objects, Arrows, Attributes, Equations}
use Rattle.rw_schema.specs.Limits.{most_objects, most_arrows, most_attributes, most_equations, longest_path}
use Rattle.rw_schema.specs.Presentation.{Presentation}
use Rattle.rw_schema.specs.SchemaFaults.{is_name, sides_meet}
use Rattle.rw_doc.specs.declared.fault.DocFault.{DocFault}
use Rattle.rw_doc.specs.Chain.{and_then, each_in, each_after, some_or, checked}
use Rattle.rw_doc.specs.Faults.{fault_at, fault_of}
use Rattle.rw_doc.specs.Json.{as_list, as_texts, has_only}

-- ---- pieces

-- a section's list of at most so many items: codes 2 and 4
abbrev pub read_list : Section → ℕ → Data → Result (List Data) DocFault
read_list section most value = and_then (some_or (fault_of 2 section) (as_list value)) (λ items.
    checked (fault_of 4 section) (nat_le (length items) most) (Ok items))

-- the items of a section that may be absent
abbrev pub read_list_or_none : Section → ℕ → Option Data → Result (List Data) DocFault
read_list_or_none section most None = Ok []
read_list_or_none section most (Some value) = read_list section most value

-- the object with the name
abbrev pub object_named : DocFault → List (List ℕ) → List ℕ → Result ObjectId DocFault
object_named fault objects name = and_then (some_or fault (position (bytes_eq name) objects)) (λ number. Ok (record { 0 = number }))

-- the arrow with the name
abbrev pub arrow_named : DocFault → List ArrowDef → List ℕ → Result ArrowId DocFault
arrow_named fault arrows name =
    and_then (some_or fault (position (λ (arrow : ArrowDef). bytes_eq name arrow.name) arrows)) (λ number. Ok (record { 0 = number }))

-- ---- objects

-- an object is its name: codes 2, 4 and 5
abbrev pub read_object : List (List ℕ) → Data → Result (List ℕ) DocFault
read_object before value = and_then (some_or (fault_at 2 Objects (length before) 0) (as_str value)) (λ name.
    checked (fault_at 4 Objects (length before) 0) (is_name name)
    (checked (fault_at 5 Objects (length before) 0) (not (list_any (bytes_eq name) before))
    (Ok name)))

abbrev pub read_objects : Data → Result (List (List ℕ)) DocFault
read_objects value = and_then (read_list Objects most_objects value) (each_after read_object [])

-- ---- arrows

pub record ArrowTexts : Type 0 where
  pub name : List ℕ
  pub source : List ℕ
  pub target : List ℕ

-- a list of three texts: the name, the source and the target
abbrev pub arrow_texts : List Data → Option ArrowTexts
arrow_texts [] = None
arrow_texts (name ∷ []) = None
arrow_texts (name ∷ source ∷ []) = None
arrow_texts (name ∷ source ∷ target ∷ []) = option_and_then (λ name. option_and_then (λ source.
    option_map (λ target. record { name = name; source = source; target = target }) (as_str target)) (as_str source)) (as_str name)
arrow_texts (name ∷ source ∷ target ∷ other ∷ others) = None

-- an arrow: codes 2, 4, 5 and 6
abbrev pub read_arrow : List (List ℕ) → List ArrowDef → Data → Result ArrowDef DocFault
read_arrow objects before value = and_then (some_or (fault_at 2 Arrows (length before) 0) (option_and_then arrow_texts (as_list value))) (λ texts.
    checked (fault_at 4 Arrows (length before) 0) (is_name texts.name)
    (checked (fault_at 5 Arrows (length before) 0) (not (list_any (λ (arrow : ArrowDef). bytes_eq texts.name arrow.name) before))
    (and_then (object_named (fault_at 6 Arrows (length before) 0) objects texts.source) (λ source.
    and_then (object_named (fault_at 6 Arrows (length before) 0) objects texts.target) (λ target.
    Ok (record { name = texts.name; source = source; target = target }))))))

abbrev pub read_arrows : List (List ℕ) → Data → Result (List ArrowDef) DocFault
read_arrows objects value = and_then (read_list Arrows most_arrows value) (each_after (read_arrow objects) [])

-- ---- attributes

pub record AttributeTexts : Type 0 where
  pub name : List ℕ
  pub object : List ℕ
  pub kind : Kind

-- the kind with the name
abbrev pub kind_named : List ℕ → Option Kind
kind_named name =
    if bytes_eq name (codes "int") then Some kinds.Int
    else if bytes_eq name (codes "text") then Some kinds.Text
    else if bytes_eq name (codes "bool") then Some kinds.Bool
    else None

-- a list of three texts: the name, the object and the kind
abbrev pub attribute_texts : List Data → Option AttributeTexts
attribute_texts [] = None
attribute_texts (name ∷ []) = None
attribute_texts (name ∷ holder ∷ []) = None
attribute_texts (name ∷ holder ∷ kind ∷ []) = option_and_then (λ name. option_and_then (λ object.
    option_map (λ kind. record { name = name; object = object; kind = kind }) (option_and_then kind_named (as_str kind))) (as_str holder)) (as_str name)
attribute_texts (name ∷ holder ∷ kind ∷ other ∷ others) = None

-- an attribute: codes 2, 4, 5 and 6
abbrev pub read_attribute : List (List ℕ) → List AttrDef → Data → Result AttrDef DocFault
read_attribute objects before value = and_then (some_or (fault_at 2 Attributes (length before) 0) (option_and_then attribute_texts (as_list value))) (λ texts.
    checked (fault_at 4 Attributes (length before) 0) (is_name texts.name)
    (checked (fault_at 5 Attributes (length before) 0) (not (list_any (λ (attribute : AttrDef). bytes_eq texts.name attribute.name) before))
    (and_then (object_named (fault_at 6 Attributes (length before) 0) objects texts.object) (λ object.
    Ok (record { name = texts.name; object = object; kind = texts.kind })))))

abbrev pub read_attributes : List (List ℕ) → Option Data → Result (List AttrDef) DocFault
read_attributes objects value = and_then (read_list_or_none Attributes most_attributes value) (each_after (read_attribute objects) [])

-- ---- equations

pub record EquationTexts : Type 0 where
  pub object : List ℕ
  pub left : List (List ℕ)
  pub right : List (List ℕ)

-- a list of a text and two lists of texts: the object and the two paths
abbrev pub equation_texts : List Data → Option EquationTexts
equation_texts [] = None
equation_texts (base ∷ []) = None
equation_texts (base ∷ left ∷ []) = None
equation_texts (base ∷ left ∷ right ∷ []) = option_and_then (λ object. option_and_then (λ left.
    option_map (λ right. record { object = object; left = left; right = right }) (as_texts right)) (as_texts left)) (as_str base)
equation_texts (base ∷ left ∷ right ∷ other ∷ others) = None

-- each path has at most 32 arrows
abbrev pub has_short_paths : EquationTexts → Bool
has_short_paths texts = nat_le (length texts.left) longest_path && nat_le (length texts.right) longest_path

-- the arrows with the names
abbrev pub path_named : DocFault → List ArrowDef → List (List ℕ) → Result (List ArrowId) DocFault
path_named fault arrows names = each_in (λ place name. arrow_named fault arrows name) 0 names

-- an equation: codes 2, 4, 6 and 7
abbrev pub read_equation : List (List ℕ) → List ArrowDef → ℕ → Data → Result parts.Equation DocFault
read_equation objects arrows place value = and_then (some_or (fault_at 2 Equations place 0) (option_and_then equation_texts (as_list value))) (λ texts.
    checked (fault_at 4 Equations place 0) (has_short_paths texts)
    (and_then (object_named (fault_at 6 Equations place 0) objects texts.object) (λ object.
    and_then (path_named (fault_at 6 Equations place 0) arrows texts.left) (λ left.
    and_then (path_named (fault_at 6 Equations place 0) arrows texts.right) (λ right.
    checked (fault_at 7 Equations place 0) (sides_meet arrows (record { object = object; left = left; right = right }))
    (Ok (record { object = object; left = left; right = right })))))))

abbrev pub read_equations : List (List ℕ) → List ArrowDef → Option Data → Result (List parts.Equation) DocFault
read_equations objects arrows value = and_then (read_list_or_none Equations most_equations value) (each_in (read_equation objects arrows) 0)

-- ---- the whole

abbrev pub schema_keys : List (List ℕ)
schema_keys = codes "arrows" ∷ codes "attributes" ∷ codes "equations" ∷ codes "objects" ∷ []

-- the object's own keys: code 2; then its sections
abbrev pub read_schema : Data → Result Presentation DocFault
read_schema value = checked (fault_of 2 Schema) (has_only schema_keys value)
    (and_then (some_or (fault_of 2 Schema) (get (codes "objects") value)) (λ objects_value.
    and_then (some_or (fault_of 2 Schema) (get (codes "arrows") value)) (λ arrows_value.
    and_then (read_objects objects_value) (λ objects.
    and_then (read_arrows objects arrows_value) (λ arrows.
    and_then (read_attributes objects (get (codes "attributes") value)) (λ attributes.
    and_then (read_equations objects arrows (get (codes "equations") value)) (λ equations.
    Ok (record { objects = objects; arrows = arrows; attributes = attributes; equations = equations }))))))))
