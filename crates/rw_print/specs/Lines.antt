-- The printed lines: each is the compact text of one JSON value, with its keys in ascending order, and a line feed.
use Rattle.std.specs.Prelude.{◌<◌, ℕ, List, [], ◌∷◌, ◌++◌, codes, map, length, Option, Some, None}
use Rattle.serde_json.specs.Data.{Data, null, number, unsigned, string, array, object, member, no_members}
use Rattle.serde_json.specs.View.{items_of}
use Rattle.serde_json.specs.Written.{compact_text}
use Rattle.rw_schema.specs.declared.ids.ArrowId.{ArrowId}
use Rattle.rw_schema.specs.declared.ids.AttrId.{AttrId}
use Rattle.rw_schema.specs.declared.ids.ObjectId.{ObjectId}
use Rattle.rw_schema.specs.declared.section.Section.{Section}
use Rattle.rw_schema.specs.Presentation.{Presentation}
use Rattle.rw_schema.specs.RowLists.{list_at}
use Rattle.rw_schema.specs.SchemaFaults.{arrow_name, attribute_name}
use Rattle.rw_schema.specs.SectionName.{name_of_section}
use Rattle.rw_rule.specs.declared.refusal.Refusal.{Refusal}
use Rattle.rw_rule.specs.declared.refusal.Refusal.TheVariants.{Identification, Dangling, NoValue, TooLarge, Clash}
use Rattle.rw_print.specs.Atoms.{atom_data}
use Rattle.rw_lists.specs.News.{NewsLists}
use Rattle.rw_print.specs.declared.last.End.{End}
use Rattle.rw_print.specs.declared.last.End.TheVariants.{Done, Failed, Spent}

-- the line of a value: its compact text, and a line feed
abbrev pub line : Data → List ℕ
line value = compact_text value ++ 10 ∷ []

abbrev pub count_data : ℕ → Data
count_data count = number (unsigned count)

abbrev pub list_data : List Data → Data
list_data values = array (items_of values)

-- a tuple is a list of its names
abbrev pub tuple_data : List ℕ → Data
tuple_data names = list_data (map count_data names)

-- {"matches":[tuple,..],"name":name}
abbrev pub matches_data : List ℕ → List (List ℕ) → Data
matches_data name tuples =
    object (member (codes "matches") (list_data (map tuple_data tuples)) (member (codes "name") (string name) no_members))

-- {"at":[first,second,third],"fault":code,"section":name}
abbrev pub fault_data : ℕ → Section → ℕ → ℕ → ℕ → Data
fault_data code section first second third =
    object (member (codes "at") (list_data (count_data first ∷ count_data second ∷ count_data third ∷ []))
    (member (codes "fault") (count_data code) (member (codes "section") (string (name_of_section section)) no_members)))

-- {"lists":[length,..],"sizes":[count,..]}
abbrev pub check_data : List ℕ → List ℕ → Data
check_data lists sizes =
    object (member (codes "lists") (list_data (map count_data lists)) (member (codes "sizes") (list_data (map count_data sizes)) no_members))

-- ---- the lines of a run

abbrev pub name_of_object : Presentation → ObjectId → List ℕ
name_of_object schema id = list_at schema.objects id.0

abbrev pub name_of_arrow : Presentation → ArrowId → List ℕ
name_of_arrow schema id = list_at (map arrow_name schema.arrows) id.0

abbrev pub name_of_attribute : Presentation → AttrId → List ℕ
name_of_attribute schema id = list_at (map attribute_name schema.attributes) id.0

-- ["identification",object,first,second], ["dangling",arrow,part], ["no_value",attribute,right part], ["too_large",object],
-- ["clash",object,name,attribute,first,second]
abbrev pub refusal_data : Presentation → Refusal → Data
refusal_data schema (Identification id first second) =
    list_data (string (codes "identification") ∷ string (name_of_object schema id) ∷ count_data first ∷ count_data second ∷ [])
refusal_data schema (Dangling arrow part) = list_data (string (codes "dangling") ∷ string (name_of_arrow schema arrow) ∷ count_data part ∷ [])
refusal_data schema (NoValue part attr) = list_data (string (codes "no_value") ∷ string (name_of_attribute schema attr) ∷ count_data part ∷ [])
refusal_data schema (TooLarge id) = list_data (string (codes "too_large") ∷ string (name_of_object schema id) ∷ [])
refusal_data schema (Clash id name attr first second) =
    list_data (string (codes "clash") ∷ string (name_of_object schema id) ∷ count_data name ∷ string (name_of_attribute schema attr)
    ∷ atom_data first ∷ atom_data second ∷ [])

-- [tuple,obstruction]
abbrev pub refused_data : Presentation → List ℕ × Refusal → Data
refused_data schema refused = list_data (tuple_data refused.0 ∷ refusal_data schema refused.1 ∷ [])

-- [number,gone,new]
abbrev pub news_data : ℕ × NewsLists → Data
news_data news = list_data (count_data news.0 ∷ list_data (map tuple_data news.1.gone) ∷ list_data (map tuple_data news.1.new) ∷ [])

-- a tuple, or null where nothing was applied
abbrev pub applied_data : Option (List ℕ) → Data
applied_data None = null
applied_data (Some tuple) = tuple_data tuple

-- {"box":place,"lists":[[number,gone,new],..],"match":tuple or null,"refused":[[tuple,obstruction],..],"rule":name}
abbrev pub step_data : Presentation → ℕ → List ℕ → Option (List ℕ) → List (ℕ × NewsLists) → List (List ℕ × Refusal) → Data
step_data schema place rule applied lists refused =
    object (member (codes "box") (count_data place)
    (member (codes "lists") (list_data (map news_data lists))
    (member (codes "match") (applied_data applied)
    (member (codes "refused") (list_data (map (refused_data schema) refused))
    (member (codes "rule") (string rule) no_members)))))

-- the printed word of an end
abbrev pub word_of_end : End → List ℕ
word_of_end Done = codes "done"
word_of_end Failed = codes "failed"
word_of_end Spent = codes "spent"

-- {"end":word,"fuel":left,"lists":[length,..],"sizes":[count,..]}
abbrev pub end_data : End → ℕ → List ℕ → List ℕ → Data
end_data end fuel lists sizes =
    object (member (codes "end") (string (word_of_end end))
    (member (codes "fuel") (count_data fuel)
    (member (codes "lists") (list_data (map count_data lists))
    (member (codes "sizes") (list_data (map count_data sizes)) no_members))))

-- the obstruction names an arrow, an attribute or an object of the schema
abbrev pub IsKnown : Presentation → Refusal → Type 0
IsKnown schema (Identification id first second) = id.0 < length schema.objects
IsKnown schema (Dangling arrow part) = arrow.0 < length schema.arrows
IsKnown schema (NoValue part attr) = attr.0 < length schema.attributes
IsKnown schema (TooLarge id) = id.0 < length schema.objects
IsKnown schema (Clash id name attr first second) = (id.0 < length schema.objects) × (attr.0 < length schema.attributes)
