-- The readers of a schema's sections tell the first fault.
use Rattle.std.proofs.Common.{◌≡◌, ◌∙◌, ◌<◌, ◌≤◌, ◌⊎◌, inl, inr, ℕ, true, false, not, Option, Some, None, Result, Ok, List, [], length, map, nat_le, slice_get, refl, sym, ap, subst, arith}
use Rattle.std.specs.List.{list_any}
use Rattle.std.specs.Str.{bytes_eq}
use Rattle.std.proofs.lemmas.Bool.{and_parts, cases_Bool, leb-true}
use Rattle.std.proofs.lemmas.Option.{same_Some}
use Rattle.serde_json.specs.Data.{Data}
use Rattle.serde_json.specs.Find.{as_str}
use Rattle.rw_schema.specs.declared.ids.ArrowId.{ArrowId}
use Rattle.rw_schema.specs.declared.ids.ObjectId.{ObjectId}
use Rattle.rw_schema.specs.declared.parts.ArrowDef.{ArrowDef}
use Rattle.rw_schema.specs.declared.parts.AttrDef.{AttrDef}
use Rattle.rw_schema.specs.declared.parts.Equation as parts
use Rattle.rw_schema.specs.declared.section.Section.{Section}
use Rattle.rw_schema.specs.declared.section.Section.TheVariants.{Objects, Arrows, Attributes, Equations}
use Rattle.rw_schema.specs.Limits.{most_objects, most_arrows, most_attributes, most_equations, longest_path}
use Rattle.rw_schema.specs.SchemaFaults.{is_name, object_name, arrow_name, attribute_name, sides_meet}
use Rattle.rw_doc.specs.declared.fault.DocFault.{DocFault}
use Rattle.rw_doc.specs.Chain.{and_then, each_in, each_after, some_or, checked}
use Rattle.rw_doc.specs.Entries.{TellsFirst, HasNone, IsLeastCode, no_code, HasOtherForm, IsWritten, RepeatsName, IsNoneOf, form_at}
use Rattle.rw_doc.specs.Faults.{fault_at, fault_of}
use Rattle.rw_doc.specs.Json.{as_list}
use Rattle.rw_doc.specs.SchemaEntries as spec
use Rattle.rw_doc.specs.SchemaEntries.{HasNoneOf, IsEquationOf}
use Rattle.rw_doc.specs.Schemas
use Rattle.rw_doc.specs.Schemas.{ArrowTexts, AttributeTexts, EquationTexts}
use Rattle.rw_doc.proofs.Chains.{chain, checked_then, there}
use Rattle.rw_doc.proofs.FirstEntries.{TellsCode, EntriesTell, or_code, only_code, tells_alone, tells_checked, tells_some, tells_read, after_tells, list_tells, placed_tell, told_in_section}
use Rattle.rw_doc.proofs.NamesRead.{NamesRead, no_names_read, one_name_read, name_repeats, is_repeated}
use Rattle.rw_doc.proofs.Unnamed.{object_unknown, object_there, object_number, path_unknown, path_there, path_numbers, same_path}
use Rattle.rw_doc.proofs.Written.{written_at, written_is, no_other_form, nothing_written, nothing_of_other_form, never_both, many}

-- ---- lists

-- the items of a list are those that it has
items_are : (value : Data) (items : List Data) → as_list value ≡ Some items → spec.items_in value ≡ items
items_are value items is = rw is refl

-- a list of a section tells its own fault
read_list_tells : (section : Section) (most : ℕ) (value : Data)
    → TellsCode (spec.ListHas most value) (λ code. fault_at code section 0 0) (Schemas.read_list section most value)
read_list_tells section most value =
    let many_items = most < length (spec.items_in value) in
    let at = λ (code : ℕ). fault_at code section 0 0 in
    tells_some 2 (as_list value ≡ None) (only_code 4 many_items) at (as_list value) _ (λ code has. omega (arith, has.0))
    (λ none. none)
    (λ items is none. never_both (as_list value) items is none)
    (λ items is. tells_alone 4 many_items at (checked (at 4) (nat_le (length items) most) (Ok items))
    (tells_checked 4 many_items no_code at (nat_le (length items) most) (Ok items) (λ code has. absurd has)
    (λ fails. rw (items_are value items is) (many (length items) most fails))
    (λ passes more. let few : length items ≤ most = leb-true (length items) most passes in
    let same : spec.items_in value ≡ items = items_are value items is in
    let over : most < length items = rw same at more in omega arith)
    (λ passes code never. never)))

-- what is read of it are its items
list_is : (section : Section) (most : ℕ) (value : Data) (items : List Data) → Schemas.read_list section most value ≡ Ok items → spec.items_in value ≡ items
list_is section most value =
    chain (λ items. spec.items_in value ≡ items) (some_or (fault_of 2 section) (as_list value)) _
    (λ items is. checked_then (λ items. spec.items_in value ≡ items) (fault_of 4 section) (nat_le (length items) most) (Ok items)
    (λ few same one. items_are value items (there (fault_of 2 section) (as_list value) items is) ∙ cc))

-- a list that may be absent tells its own fault
list_if_any_tells : (section : Section) (most : ℕ) (value : Option Data)
    → TellsCode (spec.ListIfAnyHas most value) (λ code. fault_at code section 0 0) (Schemas.read_list_or_none section most value)
list_if_any_tells section most None = λ code never. never
list_if_any_tells section most (Some value) = read_list_tells section most value

-- what is read of it are its items
list_if_any_is : (section : Section) (most : ℕ) (value : Option Data) (items : List Data) → Schemas.read_list_or_none section most value ≡ Ok items
    → spec.items_if_any value ≡ items
list_if_any_is section most None items is = cc
list_if_any_is section most (Some value) items is = list_is section most value items is

-- ---- objects

-- what an object is written as
object_written : (before : List (List ℕ)) (value : Data) (object : List ℕ) → Schemas.read_object before value ≡ Ok object
    → (text : List ℕ) × (as_str value ≡ Some text) × (object_name text ≡ object_name object)
object_written before value =
    let P = λ (object : List ℕ). (text : List ℕ) × (as_str value ≡ Some text) × (object_name text ≡ object_name object) in
    let place = length before in
    chain P (some_or (fault_at 2 Objects place 0) (as_str value)) _
    (λ text is. checked_then P (fault_at 4 Objects place 0) (is_name text) _
    (λ named. checked_then P (fault_at 5 Objects place 0) (not (list_any (bytes_eq text) before)) (Ok text)
    (λ apart object one. (text, there (fault_at 2 Objects place 0) (as_str value) text is, cc))))

-- an object behind others tells its least code
object_tells : (items : List Data) (place : ℕ) (value : Data) (before : List (List ℕ)) → slice_get items place ≡ Some value
    → NamesRead as_str object_name object_name items place before
    → TellsCode (spec.ObjectHas items place) (λ code. fault_at code Objects (length before) 0) (Schemas.read_object before value)
object_tells items place value before found names =
    let no_text = HasOtherForm as_str items place in
    let no_name = IsWritten as_str items place (λ name. is_name name ≡ false) in
    let twice = IsWritten as_str items place (RepeatsName as_str object_name items place) in
    let at = λ (code : ℕ). fault_at code Objects (length before) 0 in
    tells_some 2 no_text (or_code 4 no_name (only_code 5 twice)) at (as_str value) _ (λ code has. omega (arith, has))
    (λ none. (value, found, none))
    (λ text is other. no_other_form as_str items place text (written_at as_str items place value text found is) other)
    (λ text is. let written : form_at as_str items place ≡ Some text = written_at as_str items place value text found is in
    tells_checked 4 no_name (only_code 5 twice) at (is_name text) _ (λ code has. omega (arith, has.0))
    (λ fails. (text, written, fails))
    (λ passes holds. let fails : is_name text ≡ false = written_is as_str items place text (λ name. is_name name ≡ false) written holds in cc)
    (λ named. tells_alone 5 twice at _
    (tells_checked 5 twice no_code at (not (list_any (bytes_eq text) before)) (Ok text) (λ code has. absurd has)
    (λ fails. (text, written, name_repeats as_str object_name object_name items place before text names fails))
    (λ passes holds. is_repeated as_str object_name object_name items place before text names passes
    (written_is as_str items place text (RepeatsName as_str object_name items place) written holds))
    (λ passes code never. never))))

-- where there is no object, nothing is wrong
no_object : (items : List Data) (place : ℕ) → slice_get items place ≡ None → HasNone (spec.ObjectHas items place)
no_object items place none code (inl has) = nothing_of_other_form as_str items place none has.1
no_object items place none code (inr (inl has)) = nothing_written as_str items place (λ name. is_name name ≡ false) none has.1
no_object items place none code (inr (inr has)) = nothing_written as_str items place (RepeatsName as_str object_name items place) none has.1

-- entries with names, each read behind those before it, tell their first fault
named_tell : {X A : Type 0} (section : Section) (form : Data → Option X) (name : X → List ℕ) (name_read : A → List ℕ) (Own : ℕ → Type 0) (Has : ℕ → ℕ → Type 0)
    (list : Result (List Data) DocFault) (items : List Data) (f : List A → Data → Result A DocFault)
    → TellsCode Own (λ code. fault_at code section 0 0) list → ((read : List Data) → list ≡ Ok read → items ≡ read)
    → ((before : List A) (value : Data) (y : A) → f before value ≡ Ok y → (entry : X) × (form value ≡ Some entry) × (name entry ≡ name_read y))
    → ((place : ℕ) (value : Data) (before : List A) → slice_get items place ≡ Some value → NamesRead form name name_read items place before
    → TellsCode (Has place) (λ code. fault_at code section (length before) 0) (f before value))
    → ((place : ℕ) → slice_get items place ≡ None → HasNone (Has place))
    → TellsFirst section Own Has (and_then list (each_after f []))
named_tell section form name name_read Own Has list items f own are written entries past =
    let at = λ (place : ℕ) (code : ℕ). fault_at code section place 0 in
    told_in_section section Own Has (and_then list (each_after f []))
    (list_tells at Own Has list (each_after f []) own
    (λ read is. subst (λ list. EntriesTell at Has (each_after f [] list)) (are read is)
    (after_tells f (NamesRead form name name_read items) (λ place. HasNone (Has place))
    (λ place fault. (code : ℕ) × (fault ≡ fault_at code section place 0) × IsLeastCode (Has place) code) [] items
    (no_names_read form name name_read items)
    (λ place x before y found names here. let entry = written before x y here in
    one_name_read form name name_read items place before x y entry.0 names found entry.1 entry.2)
    (λ place x before found names.
    subst (λ (n : ℕ). TellsCode (Has place) (λ code. fault_at code section n 0) (f before x)) names.long (entries place x before found names))
    past)))

-- the objects tell their first fault
pub objects_tell : spec.ObjectsTellFirst
objects_tell value =
    let items = spec.items_in value in
    named_tell Objects as_str object_name object_name (spec.ListHas most_objects value) (spec.ObjectHas items) (Schemas.read_list Objects most_objects value) items Schemas.read_object
    (read_list_tells Objects most_objects value) (list_is Objects most_objects value) object_written (object_tells items) (no_object items)

-- ---- arrows

-- what an arrow is written as
arrow_written : (objects : List (List ℕ)) (before : List ArrowDef) (value : Data) (arrow : ArrowDef) → Schemas.read_arrow objects before value ≡ Ok arrow
    → (texts : ArrowTexts) × (spec.arrow_form value ≡ Some texts) × (spec.written_arrow texts ≡ arrow_name arrow)
arrow_written objects before value =
    let P = λ (arrow : ArrowDef). (texts : ArrowTexts) × (spec.arrow_form value ≡ Some texts) × (spec.written_arrow texts ≡ arrow_name arrow) in
    let place = length before in
    let unknown = fault_at 6 Arrows place 0 in
    chain P (some_or (fault_at 2 Arrows place 0) (spec.arrow_form value)) _
    (λ texts is. checked_then P (fault_at 4 Arrows place 0) (is_name texts.name) _
    (λ named. checked_then P (fault_at 5 Arrows place 0) (not (list_any (λ (arrow : ArrowDef). bytes_eq texts.name arrow.name) before)) _
    (λ apart. chain P (Schemas.object_named unknown objects texts.source) _
    (λ source from. chain P (Schemas.object_named unknown objects texts.target) _
    (λ target to arrow one.
    let same : record { name = texts.name; source = source; target = target } ≡ arrow = cc in
    subst P same (texts, there (fault_at 2 Arrows place 0) (spec.arrow_form value) texts is, refl))))))

-- an arrow behind others tells its least code
arrow_tells : (objects : List (List ℕ)) (items : List Data) (place : ℕ) (value : Data) (before : List ArrowDef) → slice_get items place ≡ Some value
    → NamesRead spec.arrow_form spec.written_arrow arrow_name items place before
    → TellsCode (spec.ArrowHas objects items place) (λ code. fault_at code Arrows (length before) 0) (Schemas.read_arrow objects before value)
arrow_tells objects items place value before found names =
    let form = spec.arrow_form in
    let written = IsWritten form items place in
    let no_name = written (λ texts. is_name texts.name ≡ false) in
    let twice = written (RepeatsName form spec.written_arrow items place) in
    let no_source = written (λ texts. IsNoneOf objects texts.source) in
    let no_target = written (λ texts. IsNoneOf objects texts.target) in
    let at = λ (code : ℕ). fault_at code Arrows (length before) 0 in
    tells_some 2 (HasOtherForm form items place) (or_code 4 no_name (or_code 5 twice (or_code 6 no_source (only_code 6 no_target)))) at (form value) _ (λ code has. omega (arith, has))
    (λ none. (value, found, none))
    (λ texts is other. no_other_form form items place texts (written_at form items place value texts found is) other)
    (λ texts is. let here : form_at form items place ≡ Some texts = written_at form items place value texts found is in
    tells_checked 4 no_name (or_code 5 twice (or_code 6 no_source (only_code 6 no_target))) at (is_name texts.name) _ (λ code has. omega (arith, has))
    (λ fails. (texts, here, fails))
    (λ passes holds. let fails : is_name texts.name ≡ false = written_is form items place texts (λ texts. is_name texts.name ≡ false) here holds in cc)
    (λ named. tells_checked 5 twice (or_code 6 no_source (only_code 6 no_target)) at (not (list_any (λ (arrow : ArrowDef). bytes_eq texts.name arrow.name) before)) _ (λ code has. omega (arith, has))
    (λ fails. (texts, here, name_repeats form spec.written_arrow arrow_name items place before texts names fails))
    (λ passes holds. is_repeated form spec.written_arrow arrow_name items place before texts names passes
    (written_is form items place texts (RepeatsName form spec.written_arrow items place) here holds))
    (λ apart. tells_read 6 no_source (only_code 6 no_target) at (Schemas.object_named (at 6) objects texts.source) _ (λ code has. omega (arith, has.0))
    (λ fault is. let unknown = object_unknown (at 6) objects texts.source fault is in (unknown.0, (texts, here, unknown.1)))
    (λ source is holds. object_there (at 6) objects texts.source source is (written_is form items place texts (λ texts. IsNoneOf objects texts.source) here holds))
    (λ source from. tells_alone 6 no_target at _
    (tells_read 6 no_target no_code at (Schemas.object_named (at 6) objects texts.target) (λ target. Ok (record { name = texts.name; source = source; target = target })) (λ code has. absurd has)
    (λ fault is. let unknown = object_unknown (at 6) objects texts.target fault is in (unknown.0, (texts, here, unknown.1)))
    (λ target is holds. object_there (at 6) objects texts.target target is (written_is form items place texts (λ texts. IsNoneOf objects texts.target) here holds))
    (λ target to code never. never))))))

-- where there is no arrow, nothing is wrong
no_arrow : (objects : List (List ℕ)) (items : List Data) (place : ℕ) → slice_get items place ≡ None → HasNone (spec.ArrowHas objects items place)
no_arrow objects items place none code (inl has) = nothing_of_other_form spec.arrow_form items place none has.1
no_arrow objects items place none code (inr (inl has)) = nothing_written spec.arrow_form items place (λ texts. is_name texts.name ≡ false) none has.1
no_arrow objects items place none code (inr (inr (inl has))) = nothing_written spec.arrow_form items place (RepeatsName spec.arrow_form spec.written_arrow items place) none has.1
no_arrow objects items place none code (inr (inr (inr (inl has)))) = nothing_written spec.arrow_form items place (λ texts. IsNoneOf objects texts.source) none has.1
no_arrow objects items place none code (inr (inr (inr (inr has)))) = nothing_written spec.arrow_form items place (λ texts. IsNoneOf objects texts.target) none has.1

-- the arrows tell their first fault
pub arrows_tell : spec.ArrowsTellFirst
arrows_tell objects value =
    let items = spec.items_in value in
    named_tell Arrows spec.arrow_form spec.written_arrow arrow_name (spec.ListHas most_arrows value) (spec.ArrowHas objects items) (Schemas.read_list Arrows most_arrows value) items (Schemas.read_arrow objects)
    (read_list_tells Arrows most_arrows value) (list_is Arrows most_arrows value) (arrow_written objects) (arrow_tells objects items) (no_arrow objects items)

-- ---- attributes

-- what an attribute is written as
attribute_written : (objects : List (List ℕ)) (before : List AttrDef) (value : Data) (attribute : AttrDef) → Schemas.read_attribute objects before value ≡ Ok attribute
    → (texts : AttributeTexts) × (spec.attribute_form value ≡ Some texts) × (spec.written_attribute texts ≡ attribute_name attribute)
attribute_written objects before value =
    let P = λ (attribute : AttrDef). (texts : AttributeTexts) × (spec.attribute_form value ≡ Some texts) × (spec.written_attribute texts ≡ attribute_name attribute) in
    let place = length before in
    let unknown = fault_at 6 Attributes place 0 in
    chain P (some_or (fault_at 2 Attributes place 0) (spec.attribute_form value)) _
    (λ texts is. checked_then P (fault_at 4 Attributes place 0) (is_name texts.name) _
    (λ named. checked_then P (fault_at 5 Attributes place 0) (not (list_any (λ (attribute : AttrDef). bytes_eq texts.name attribute.name) before)) _
    (λ apart. chain P (Schemas.object_named unknown objects texts.object) _
    (λ object of attribute one.
    let same : record { name = texts.name; object = object; kind = texts.kind } ≡ attribute = cc in
    subst P same (texts, there (fault_at 2 Attributes place 0) (spec.attribute_form value) texts is, refl)))))

-- an attribute behind others tells its least code
attribute_tells : (objects : List (List ℕ)) (items : List Data) (place : ℕ) (value : Data) (before : List AttrDef) → slice_get items place ≡ Some value
    → NamesRead spec.attribute_form spec.written_attribute attribute_name items place before
    → TellsCode (spec.AttributeHas objects items place) (λ code. fault_at code Attributes (length before) 0) (Schemas.read_attribute objects before value)
attribute_tells objects items place value before found names =
    let form = spec.attribute_form in
    let written = IsWritten form items place in
    let no_name = written (λ texts. is_name texts.name ≡ false) in
    let twice = written (RepeatsName form spec.written_attribute items place) in
    let no_object = written (λ texts. IsNoneOf objects texts.object) in
    let at = λ (code : ℕ). fault_at code Attributes (length before) 0 in
    tells_some 2 (HasOtherForm form items place) (or_code 4 no_name (or_code 5 twice (only_code 6 no_object))) at (form value) _ (λ code has. omega (arith, has))
    (λ none. (value, found, none))
    (λ texts is other. no_other_form form items place texts (written_at form items place value texts found is) other)
    (λ texts is. let here : form_at form items place ≡ Some texts = written_at form items place value texts found is in
    tells_checked 4 no_name (or_code 5 twice (only_code 6 no_object)) at (is_name texts.name) _ (λ code has. omega (arith, has))
    (λ fails. (texts, here, fails))
    (λ passes holds. let fails : is_name texts.name ≡ false = written_is form items place texts (λ texts. is_name texts.name ≡ false) here holds in cc)
    (λ named. tells_checked 5 twice (only_code 6 no_object) at (not (list_any (λ (attribute : AttrDef). bytes_eq texts.name attribute.name) before)) _ (λ code has. omega (arith, has.0))
    (λ fails. (texts, here, name_repeats form spec.written_attribute attribute_name items place before texts names fails))
    (λ passes holds. is_repeated form spec.written_attribute attribute_name items place before texts names passes
    (written_is form items place texts (RepeatsName form spec.written_attribute items place) here holds))
    (λ apart. tells_alone 6 no_object at _
    (tells_read 6 no_object no_code at (Schemas.object_named (at 6) objects texts.object) (λ object. Ok (record { name = texts.name; object = object; kind = texts.kind })) (λ code has. absurd has)
    (λ fault is. let unknown = object_unknown (at 6) objects texts.object fault is in (unknown.0, (texts, here, unknown.1)))
    (λ object is holds. object_there (at 6) objects texts.object object is (written_is form items place texts (λ texts. IsNoneOf objects texts.object) here holds))
    (λ object of code never. never)))))

-- where there is no attribute, nothing is wrong
no_attribute : (objects : List (List ℕ)) (items : List Data) (place : ℕ) → slice_get items place ≡ None → HasNone (spec.AttributeHas objects items place)
no_attribute objects items place none code (inl has) = nothing_of_other_form spec.attribute_form items place none has.1
no_attribute objects items place none code (inr (inl has)) = nothing_written spec.attribute_form items place (λ texts. is_name texts.name ≡ false) none has.1
no_attribute objects items place none code (inr (inr (inl has))) =
    nothing_written spec.attribute_form items place (RepeatsName spec.attribute_form spec.written_attribute items place) none has.1
no_attribute objects items place none code (inr (inr (inr has))) = nothing_written spec.attribute_form items place (λ texts. IsNoneOf objects texts.object) none has.1

-- the attributes tell their first fault
pub attributes_tell : spec.AttributesTellFirst
attributes_tell objects value =
    let items = spec.items_if_any value in
    named_tell Attributes spec.attribute_form spec.written_attribute attribute_name (spec.ListIfAnyHas most_attributes value) (spec.AttributeHas objects items)
    (Schemas.read_list_or_none Attributes most_attributes value) items (Schemas.read_attribute objects)
    (list_if_any_tells Attributes most_attributes value) (list_if_any_is Attributes most_attributes value) (attribute_written objects) (attribute_tells objects items) (no_attribute objects items)

-- ---- equations

-- a path is too long
abbrev HasLongPath : EquationTexts → Type 0
HasLongPath texts = (longest_path < length texts.left) ⊎ (longest_path < length texts.right)

-- where the test of the lengths fails, a path is too long
too_long : (texts : EquationTexts) → Schemas.has_short_paths texts ≡ false → HasLongPath texts
too_long texts fails = elim (cases_Bool (nat_le (length texts.left) longest_path)) [
  | inl short ↦ inr (many (length texts.right) longest_path (rw short at fails))
  | inr long ↦ inl (many (length texts.left) longest_path long)
]

-- where it passes, none is
not_too_long : (texts : EquationTexts) → Schemas.has_short_paths texts ≡ true → HasLongPath texts → ⊥
not_too_long texts passes long =
    let both = and_parts (nat_le (length texts.left) longest_path) (nat_le (length texts.right) longest_path) passes in
    let left : length texts.left ≤ longest_path = leb-true (length texts.left) longest_path both.0 in
    let right : length texts.right ≤ longest_path = leb-true (length texts.right) longest_path both.1 in
    elim long [ inl more ↦ (omega arith) | inr more ↦ (omega arith) ]

-- the paths of the names do not meet
abbrev MeetsNowhere : List (List ℕ) → List ArrowDef → EquationTexts → Type 0
MeetsNowhere objects arrows texts = (equation : parts.Equation) × IsEquationOf objects arrows texts equation × (sides_meet arrows equation ≡ false)

-- names tell one equation
same_equation : (objects : List (List ℕ)) (arrows : List ArrowDef) (texts : EquationTexts) (first second : parts.Equation)
    → IsEquationOf objects arrows texts first → IsEquationOf objects arrows texts second → first ≡ second
same_equation objects arrows texts first second one other =
    let number : first.object.0 ≡ second.object.0 = same_Some first.object.0 second.object.0 (sym one.object ∙ other.object) in
    let object : first.object ≡ second.object = ap (λ n. record { 0 = n }) number in
    let left : first.left ≡ second.left = same_path first.left second.left (sym one.left ∙ other.left) in
    let right : first.right ≡ second.right = same_path first.right second.right (sym one.right ∙ other.right) in
    same_parts first.object second.object first.left second.left first.right second.right object left right
  where
    same_parts : (o p : ObjectId) (l m r s : List ArrowId) → o ≡ p → l ≡ m → r ≡ s
        → record { object = o; left = l; right = r } ≡ (let other : parts.Equation = record { object = p; left = m; right = s } in other)
    same_parts o p l m r s first second third = rw (first, second, third) refl

-- an equation tells its least code
equation_tells : (objects : List (List ℕ)) (arrows : List ArrowDef) (items : List Data) (place : ℕ) (value : Data) → slice_get items place ≡ Some value
    → TellsCode (spec.EquationHas objects arrows items place) (λ code. fault_at code Equations place 0) (Schemas.read_equation objects arrows place value)
equation_tells objects arrows items place value found =
    let form = spec.equation_form in
    let written = IsWritten form items place in
    let names = map arrow_name arrows in
    let long = written HasLongPath in
    let no_object = written (λ texts. IsNoneOf objects texts.object) in
    let no_left = written (λ texts. HasNoneOf names texts.left) in
    let no_right = written (λ texts. HasNoneOf names texts.right) in
    let apart = written (MeetsNowhere objects arrows) in
    let at = λ (code : ℕ). fault_at code Equations place 0 in
    tells_some 2 (HasOtherForm form items place) (or_code 4 long (or_code 6 no_object (or_code 6 no_left (or_code 6 no_right (only_code 7 apart))))) at (form value) _ (λ code has. omega (arith, has))
    (λ none. (value, found, none))
    (λ texts is other. no_other_form form items place texts (written_at form items place value texts found is) other)
    (λ texts is. let here : form_at form items place ≡ Some texts = written_at form items place value texts found is in
    tells_checked 4 long (or_code 6 no_object (or_code 6 no_left (or_code 6 no_right (only_code 7 apart)))) at (Schemas.has_short_paths texts) _ (λ code has. omega (arith, has))
    (λ fails. (texts, here, too_long texts fails))
    (λ passes holds. not_too_long texts passes (written_is form items place texts HasLongPath here holds))
    (λ short. tells_read 6 no_object (or_code 6 no_left (or_code 6 no_right (only_code 7 apart))) at (Schemas.object_named (at 6) objects texts.object) _ (λ code has. omega (arith, has))
    (λ fault is. let unknown = object_unknown (at 6) objects texts.object fault is in (unknown.0, (texts, here, unknown.1)))
    (λ object is holds. object_there (at 6) objects texts.object object is (written_is form items place texts (λ texts. IsNoneOf objects texts.object) here holds))
    (λ object of. tells_read 6 no_left (or_code 6 no_right (only_code 7 apart)) at (Schemas.path_named (at 6) arrows texts.left) _ (λ code has. omega (arith, has))
    (λ fault is. let unknown = path_unknown (at 6) arrows texts.left fault is in (unknown.0, (texts, here, unknown.1)))
    (λ path is holds. path_there (at 6) arrows texts.left path is (written_is form items place texts (λ texts. HasNoneOf names texts.left) here holds))
    (λ left first. tells_read 6 no_right (only_code 7 apart) at (Schemas.path_named (at 6) arrows texts.right) _ (λ code has. omega (arith, has.0))
    (λ fault is. let unknown = path_unknown (at 6) arrows texts.right fault is in (unknown.0, (texts, here, unknown.1)))
    (λ path is holds. path_there (at 6) arrows texts.right path is (written_is form items place texts (λ texts. HasNoneOf names texts.right) here holds))
    (λ right second.
    let equation : parts.Equation = record { object = object; left = left; right = right } in
    let is_of : IsEquationOf objects arrows texts equation = record {
      object = object_number (at 6) objects texts.object object of;
      left = path_numbers (at 6) arrows texts.left left first;
      right = path_numbers (at 6) arrows texts.right right second;
    } in
    tells_alone 7 apart at (checked (at 7) (sides_meet arrows equation) (Ok equation))
    (tells_checked 7 apart no_code at (sides_meet arrows equation) (Ok equation) (λ code has. absurd has)
    (λ fails. (texts, here, (equation, is_of, fails)))
    (λ passes holds. let other = written_is form items place texts (MeetsNowhere objects arrows) here holds in
    let same : other.0 ≡ equation = same_equation objects arrows texts other.0 equation other.1 is_of in
    let fails : sides_meet arrows equation ≡ false = subst (λ equation. sides_meet arrows equation ≡ false) same other.2 in cc)
    (λ passes code never. never)))))))

-- where there is no equation, nothing is wrong
no_equation : (objects : List (List ℕ)) (arrows : List ArrowDef) (items : List Data) (place : ℕ) → slice_get items place ≡ None → HasNone (spec.EquationHas objects arrows items place)
no_equation objects arrows items place none code (inl has) = nothing_of_other_form spec.equation_form items place none has.1
no_equation objects arrows items place none code (inr (inl has)) = nothing_written spec.equation_form items place HasLongPath none has.1
no_equation objects arrows items place none code (inr (inr (inl has))) = nothing_written spec.equation_form items place (λ texts. IsNoneOf objects texts.object) none has.1
no_equation objects arrows items place none code (inr (inr (inr (inl has)))) =
    nothing_written spec.equation_form items place (λ texts. HasNoneOf (map arrow_name arrows) texts.left) none has.1
no_equation objects arrows items place none code (inr (inr (inr (inr (inl has))))) =
    nothing_written spec.equation_form items place (λ texts. HasNoneOf (map arrow_name arrows) texts.right) none has.1
no_equation objects arrows items place none code (inr (inr (inr (inr (inr has))))) = nothing_written spec.equation_form items place (MeetsNowhere objects arrows) none has.1

-- the equations tell their first fault
pub equations_tell : spec.EquationsTellFirst
equations_tell objects arrows value =
    let items = spec.items_if_any value in
    let list = Schemas.read_list_or_none Equations most_equations value in
    told_in_section Equations (spec.ListIfAnyHas most_equations value) (spec.EquationHas objects arrows items) (and_then list (each_in (Schemas.read_equation objects arrows) 0))
    (placed_tell (λ place code. fault_at code Equations place 0) (spec.ListIfAnyHas most_equations value) (spec.EquationHas objects arrows items) list items (Schemas.read_equation objects arrows)
    (list_if_any_tells Equations most_equations value) (list_if_any_is Equations most_equations value) (equation_tells objects arrows items) (no_equation objects arrows items))
