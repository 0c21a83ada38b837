-- What is wrong with the entries of a schema, by the codes of docs/FORMAT.md, and that its readers tell the first of it.
use Rattle.std.specs.Prelude.{◌≡◌, ◌<◌, ◌⊎◌, ℕ, false, List, [], ◌∷◌, Option, Some, None, Ok, Err, codes, length, map, option_and_then, unwrap_or, position, slice_get}
use Rattle.std.specs.Str.{bytes_eq}
use Rattle.serde_json.specs.Data.{Data, null}
use Rattle.serde_json.specs.Find.{as_str, get}
use Rattle.rw_schema.specs.declared.ids.ArrowId.{ArrowId}
use Rattle.rw_schema.specs.declared.parts.ArrowDef.{ArrowDef}
use Rattle.rw_schema.specs.declared.parts.Equation as parts
use Rattle.rw_schema.specs.declared.section.Section.TheVariants.{Schema, Objects, Arrows, Attributes, Equations}
use Rattle.rw_schema.specs.Limits.{most_objects, most_arrows, most_attributes, most_equations, longest_path}
use Rattle.rw_schema.specs.SchemaFaults.{is_name, object_name, arrow_name, sides_meet}
use Rattle.rw_doc.specs.declared.fault.DocFault.{DocFault}
use Rattle.rw_doc.specs.Faults.{fault_of}
use Rattle.rw_doc.specs.Entries.{TellsFirst, TellsInOrder, HasOtherForm, IsWritten, RepeatsName, IsNoneOf, no_code}
use Rattle.rw_doc.specs.Json.{as_list, has_only}
use Rattle.rw_doc.specs.Schemas.{ArrowTexts, AttributeTexts, EquationTexts, arrow_texts, attribute_texts, equation_texts, schema_keys, read_schema, read_objects, read_arrows, read_attributes, read_equations}

-- ---- lists

-- the items of a list; another value has none
abbrev pub items_in : Data → List Data
items_in value = unwrap_or (as_list value) []

-- the items of a list that may be absent
abbrev pub items_if_any : Option Data → List Data
items_if_any None = []
items_if_any (Some value) = items_in value

-- the list itself: 2, the value is no list; 4, it has too many entries
abbrev pub ListHas : ℕ → Data → ℕ → Type 0
ListHas most value code =
    (code ≡ 2) × (as_list value ≡ None)
    ⊎ (code ≡ 4) × (most < length (items_in value))

-- the list itself, where it may be absent
abbrev pub ListIfAnyHas : ℕ → Option Data → ℕ → Type 0
ListIfAnyHas most None = no_code
ListIfAnyHas most (Some value) = ListHas most value

-- ---- objects

-- the object at the place: 2, it is no text; 4, it has not the length of a name; 5, an earlier object has its name
abbrev pub ObjectHas : List Data → ℕ → ℕ → Type 0
ObjectHas items place code =
    (code ≡ 2) × HasOtherForm as_str items place
    ⊎ (code ≡ 4) × IsWritten as_str items place (λ name. is_name name ≡ false)
    ⊎ (code ≡ 5) × IsWritten as_str items place (RepeatsName as_str object_name items place)

-- the objects tell their first fault
abbrev pub ObjectsTellFirst : Type 0
ObjectsTellFirst = (value : Data) → TellsFirst Objects (ListHas most_objects value) (ObjectHas (items_in value)) (read_objects value)

-- ---- arrows

-- the three texts that an arrow is written in
abbrev pub arrow_form : Data → Option ArrowTexts
arrow_form value = option_and_then arrow_texts (as_list value)

-- the name that an arrow is written with
abbrev pub written_arrow : ArrowTexts → List ℕ
written_arrow texts = texts.name

-- the arrow at the place, over these objects: 2, it is no list of three texts; 4, its name has not the length of one; 5, an
-- earlier arrow has its name; 6, its source or its target is no object
abbrev pub ArrowHas : List (List ℕ) → List Data → ℕ → ℕ → Type 0
ArrowHas objects items place code =
    (code ≡ 2) × HasOtherForm arrow_form items place
    ⊎ (code ≡ 4) × IsWritten arrow_form items place (λ texts. is_name texts.name ≡ false)
    ⊎ (code ≡ 5) × IsWritten arrow_form items place (RepeatsName arrow_form written_arrow items place)
    ⊎ (code ≡ 6) × IsWritten arrow_form items place (λ texts. IsNoneOf objects texts.source)
    ⊎ (code ≡ 6) × IsWritten arrow_form items place (λ texts. IsNoneOf objects texts.target)

-- the arrows tell their first fault
abbrev pub ArrowsTellFirst : Type 0
ArrowsTellFirst = (objects : List (List ℕ)) (value : Data)
    → TellsFirst Arrows (ListHas most_arrows value) (ArrowHas objects (items_in value)) (read_arrows objects value)

-- ---- attributes

-- the texts that an attribute is written in, the last of them the name of a kind
abbrev pub attribute_form : Data → Option AttributeTexts
attribute_form value = option_and_then attribute_texts (as_list value)

-- the name that an attribute is written with
abbrev pub written_attribute : AttributeTexts → List ℕ
written_attribute texts = texts.name

-- the attribute at the place, over these objects: 2, it is no list of two texts and a kind; 4, its name has not the length
-- of one; 5, an earlier attribute has its name; 6, what it belongs to is no object
abbrev pub AttributeHas : List (List ℕ) → List Data → ℕ → ℕ → Type 0
AttributeHas objects items place code =
    (code ≡ 2) × HasOtherForm attribute_form items place
    ⊎ (code ≡ 4) × IsWritten attribute_form items place (λ texts. is_name texts.name ≡ false)
    ⊎ (code ≡ 5) × IsWritten attribute_form items place (RepeatsName attribute_form written_attribute items place)
    ⊎ (code ≡ 6) × IsWritten attribute_form items place (λ texts. IsNoneOf objects texts.object)

-- the attributes tell their first fault
abbrev pub AttributesTellFirst : Type 0
AttributesTellFirst = (objects : List (List ℕ)) (value : Option Data)
    → TellsFirst Attributes (ListIfAnyHas most_attributes value) (AttributeHas objects (items_if_any value)) (read_attributes objects value)

-- ---- equations

-- the texts that an equation is written in
abbrev pub equation_form : Data → Option EquationTexts
equation_form value = option_and_then equation_texts (as_list value)

-- a name of the list is none of these
abbrev pub HasNoneOf : List (List ℕ) → List (List ℕ) → Type 0
HasNoneOf names path = (place : ℕ) × (name : List ℕ) × (slice_get path place ≡ Some name) × IsNoneOf names name

-- the numbers of the path are those of the arrows with these names
abbrev pub IsPathOf : List ArrowDef → List (List ℕ) → List ArrowId → Type 0
IsPathOf arrows names path = map (λ name. position (λ (arrow : ArrowDef). bytes_eq name arrow.name) arrows) names ≡ map (λ (arrow : ArrowId). Some arrow.0) path

-- the equation is that of the names
pub record IsEquationOf (objects : List (List ℕ)) (arrows : List ArrowDef) (texts : EquationTexts) (equation : parts.Equation) : Type 0 where
  pub object : position (bytes_eq texts.object) objects ≡ Some equation.object.0
  pub left : IsPathOf arrows texts.left equation.left
  pub right : IsPathOf arrows texts.right equation.right

-- the equation at the place, over these objects and arrows: 2, it is no list of a text and two lists of texts; 4, a path has
-- too many arrows; 6, its object or an arrow of a path is not there; 7, its paths do not meet
abbrev pub EquationHas : List (List ℕ) → List ArrowDef → List Data → ℕ → ℕ → Type 0
EquationHas objects arrows items place code =
    (code ≡ 2) × HasOtherForm equation_form items place
    ⊎ (code ≡ 4) × IsWritten equation_form items place (λ texts. (longest_path < length texts.left) ⊎ (longest_path < length texts.right))
    ⊎ (code ≡ 6) × IsWritten equation_form items place (λ texts. IsNoneOf objects texts.object)
    ⊎ (code ≡ 6) × IsWritten equation_form items place (λ texts. HasNoneOf (map arrow_name arrows) texts.left)
    ⊎ (code ≡ 6) × IsWritten equation_form items place (λ texts. HasNoneOf (map arrow_name arrows) texts.right)
    ⊎ (code ≡ 7) × IsWritten equation_form items place (λ texts.
    (equation : parts.Equation) × IsEquationOf objects arrows texts equation × (sides_meet arrows equation ≡ false))

-- the equations tell their first fault
abbrev pub EquationsTellFirst : Type 0
EquationsTellFirst = (objects : List (List ℕ)) (arrows : List ArrowDef) (value : Option Data)
    → TellsFirst Equations (ListIfAnyHas most_equations value) (EquationHas objects arrows (items_if_any value)) (read_equations objects arrows value)

-- ---- the whole

-- the value at a key; null where there is none
abbrev pub member_at : List ℕ → Data → Data
member_at key value = unwrap_or (get key value) null

-- one of the keys is absent
abbrev pub LacksOneOf : List (List ℕ) → Data → Type 0
LacksOneOf [] value = ⊥
LacksOneOf (key ∷ keys) value = (get key value ≡ None) ⊎ LacksOneOf keys value

-- the value is no object or has another key than these, or it lacks one that it has to have
abbrev pub HasOtherKeys : List (List ℕ) → List (List ℕ) → Data → Type 0
HasOtherKeys known required value = (has_only known value ≡ false) ⊎ LacksOneOf required value

-- the objects of the schema are these
abbrev pub HasObjects : Data → List (List ℕ) → Type 0
HasObjects value objects = read_objects (member_at (codes "objects") value) ≡ Ok objects

-- its arrows are these, over the objects
abbrev pub HasArrows : Data → List (List ℕ) → List ArrowDef → Type 0
HasArrows value objects arrows = read_arrows objects (member_at (codes "arrows") value) ≡ Ok arrows

-- the faults of a schema's sections, in the order of docs/FORMAT.md: its own keys, the objects, the arrows, the attributes,
-- the equations
abbrev pub SchemaHas : Data → ℕ → DocFault → Type 0
SchemaHas value place fault =
    (place ≡ 0) × ((fault ≡ fault_of 2 Schema) × HasOtherKeys schema_keys (codes "objects" ∷ codes "arrows" ∷ []) value)
    ⊎ (place ≡ 1) × (read_objects (member_at (codes "objects") value) ≡ Err fault)
    ⊎ (place ≡ 2) × ((objects : List (List ℕ)) × HasObjects value objects × (read_arrows objects (member_at (codes "arrows") value) ≡ Err fault))
    ⊎ (place ≡ 3) × ((objects : List (List ℕ)) × HasObjects value objects × (read_attributes objects (get (codes "attributes") value) ≡ Err fault))
    ⊎ (place ≡ 4) × ((objects : List (List ℕ)) × (arrows : List ArrowDef) × HasObjects value objects × HasArrows value objects arrows
    × (read_equations objects arrows (get (codes "equations") value) ≡ Err fault))

-- a schema tells the fault of its first section that has one
abbrev pub SchemaTellsFirst : Type 0
SchemaTellsFirst = (value : Data) → TellsInOrder (SchemaHas value) (read_schema value)
