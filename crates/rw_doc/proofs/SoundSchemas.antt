-- What is read as a schema is one.
use Rattle.std.proofs.Common.{◌≡◌, ◌+◌, ◌≤◌, ℕ, true, not, nat_le, Option, Some, None, option_and_then, Ok, List, [], ◌∷◌, ◌++◌, length, refl, subst, arith}
use Rattle.std.specs.List.{list_all, list_any}
use Rattle.std.specs.Str.{bytes_eq}
use Rattle.std.proofs.lemmas.Bool.{leb-true, le-leb, not-true}
use Rattle.std.proofs.lemmas.List.Folds.{list_all-append}
use Rattle.serde_json.specs.Data.{Data}
use Rattle.serde_json.specs.Find.{as_str}
use Rattle.rw_schema.specs.declared.fault.SchemaFault.TheVariants as faults
use Rattle.rw_schema.specs.declared.ids.ArrowId.{ArrowId}
use Rattle.rw_schema.specs.declared.parts.ArrowDef.{ArrowDef}
use Rattle.rw_schema.specs.declared.parts.AttrDef.{AttrDef}
use Rattle.rw_schema.specs.declared.parts.Equation as parts
use Rattle.rw_schema.specs.declared.section.Section.{Section}
use Rattle.rw_schema.specs.declared.section.Section.TheVariants.{Objects, Arrows, Attributes, Equations}
use Rattle.rw_schema.specs.Limits.{most_objects, most_arrows, most_attributes, most_equations}
use Rattle.rw_schema.specs.Presentation.{Presentation}
use Rattle.rw_schema.specs.SchemaFaults.{is_name, has_ends, has_holder, is_of_schema, has_short_sides, sides_meet, object_name, arrow_name, attribute_name, schema_fault}
use Rattle.rw_schema.proofs.Schemas.{misplaced_first}
use Rattle.rw_doc.specs.declared.fault.DocFault.{DocFault}
use Rattle.rw_doc.specs.Chain.{each_in, each_after, some_or}
use Rattle.rw_doc.specs.Faults.{fault_at, fault_of}
use Rattle.rw_doc.specs.Json.{as_list}
use Rattle.rw_doc.specs.Schemas
use Rattle.rw_doc.proofs.Chains.{chain, checked_then, each_passes, each_long, behind, behind_long}
use Rattle.rw_doc.proofs.Faultless.{IsNew, HasNames, no_names, one_name_more}
use Rattle.rw_schema.proofs.Firsts.{none_unless}
use Rattle.rw_doc.proofs.Named.{object_known, path_known}

-- the list has at most so many items
abbrev IsFew : {A : Type 0} → ℕ → List A → Type 0
IsFew most items = length items ≤ most

-- the items of a section are few
few_items : (section : Section) (most : ℕ) (value : Data) (items : List Data) → Schemas.read_list section most value ≡ Ok items → IsFew most items
few_items section most value =
    chain (λ items. IsFew most items) (some_or (fault_of 2 section) (as_list value)) _
    (λ items there. checked_then (λ items. IsFew most items) (fault_of 4 section) (nat_le (length items) most) (Ok items)
    (λ few same is. let one : items ≡ same = cc in subst (λ items. IsFew most items) one (leb-true (length items) most few)))

-- so are those of a section that may be absent
few_or_none : (section : Section) (most : ℕ) (value : Option Data) (items : List Data) → Schemas.read_list_or_none section most value ≡ Ok items → IsFew most items
few_or_none section most None items is = let same : [] ≡ items = cc in subst (λ items. IsFew most items) same (omega arith)
few_or_none section most (Some value) items is = few_items section most value items is

-- ---- objects

-- an object that is read behind others is new
object_new : (before : List (List ℕ)) (value : Data) (name : List ℕ) → Schemas.read_object before value ≡ Ok name → IsNew object_name before name
object_new before value =
    chain (IsNew object_name before) (some_or (fault_at 2 Objects (length before) 0) (as_str value)) _
    (λ name there. checked_then (IsNew object_name before) (fault_at 4 Objects (length before) 0) (is_name name) _
    (λ named. checked_then (IsNew object_name before) (fault_at 5 Objects (length before) 0) (not (list_any (bytes_eq name) before)) (Ok name)
    (λ apart same is. let one : name ≡ same = cc in
    subst (IsNew object_name before) one (record { named = named; apart = not-true (list_any (bytes_eq name) before) apart }))))

-- few objects, with names
abbrev pub AreObjects : List (List ℕ) → Type 0
AreObjects objects = IsFew most_objects objects × HasNames object_name Objects objects

-- the objects that are read
objects_read : (value : Data) (objects : List (List ℕ)) → Schemas.read_objects value ≡ Ok objects → AreObjects objects
objects_read value =
    chain AreObjects (Schemas.read_list Objects most_objects value) (each_after Schemas.read_object [])
    (λ items read objects is.
    let few : length items ≤ most_objects = few_items Objects most_objects value items read in
    let long : length objects ≡ 0 + length items = behind_long Schemas.read_object [] items objects is in (
      omega arith,
      behind (HasNames object_name Objects) Schemas.read_object
          (λ before value name names here. one_name_more object_name Objects before name names (object_new before value name here))
          [] items objects (no_names object_name Objects) is,
    ))

-- ---- arrows

-- an arrow that is read behind others is new, and its ends are objects
record IsArrow (objects : List (List ℕ)) (before : List ArrowDef) (arrow : ArrowDef) : Type 0 where
  new : IsNew arrow_name before arrow
  ends : has_ends (length objects) arrow ≡ true

-- what is read behind other arrows is one
arrow_new : (objects : List (List ℕ)) (before : List ArrowDef) (value : Data) (arrow : ArrowDef)
    → Schemas.read_arrow objects before value ≡ Ok arrow → IsArrow objects before arrow
arrow_new objects before value =
    let P = IsArrow objects before in
    let unknown = fault_at 6 Arrows (length before) 0 in
    chain P (some_or (fault_at 2 Arrows (length before) 0) (option_and_then Schemas.arrow_texts (as_list value))) _
    (λ texts there. checked_then P (fault_at 4 Arrows (length before) 0) (is_name texts.name) _
    (λ named. checked_then P (fault_at 5 Arrows (length before) 0) (not (list_any (λ (arrow : ArrowDef). bytes_eq texts.name arrow.name) before)) _
    (λ apart. chain P (Schemas.object_named unknown objects texts.source) _
    (λ source from. chain P (Schemas.object_named unknown objects texts.target) _
    (λ target to arrow is. let one : record { name = texts.name; source = source; target = target } ≡ arrow = cc in
    subst P one (record {
      new = record { named = named; apart = not-true (list_any (λ (arrow : ArrowDef). bytes_eq texts.name arrow.name) before) apart };
      ends = rw (object_known unknown objects texts.source source from, object_known unknown objects texts.target target to) refl;
    }))))))

-- few arrows between the objects, with names
record AreArrows (objects : List (List ℕ)) (arrows : List ArrowDef) : Type 0 where
  names : HasNames arrow_name Arrows arrows
  ends : list_all (has_ends (length objects)) arrows ≡ true

-- one arrow more
one_arrow_more : (objects : List (List ℕ)) (before : List ArrowDef) (value : Data) (arrow : ArrowDef)
    → AreArrows objects before → Schemas.read_arrow objects before value ≡ Ok arrow → AreArrows objects (before ++ arrow ∷ [])
one_arrow_more objects before value arrow arrows here =
    let one = arrow_new objects before value arrow here in record {
      names = one_name_more arrow_name Arrows before arrow arrows.names one.new;
      ends = rw (list_all-append (has_ends (length objects)) before (arrow ∷ []), arrows.ends, one.ends) refl;
    }

-- the arrows that are read
arrows_read : (objects : List (List ℕ)) (value : Data) (arrows : List ArrowDef) → Schemas.read_arrows objects value ≡ Ok arrows
    → IsFew most_arrows arrows × AreArrows objects arrows
arrows_read objects value =
    chain (λ arrows. IsFew most_arrows arrows × AreArrows objects arrows) (Schemas.read_list Arrows most_arrows value) (each_after (Schemas.read_arrow objects) [])
    (λ items read arrows is.
    let few : length items ≤ most_arrows = few_items Arrows most_arrows value items read in
    let long : length arrows ≡ 0 + length items = behind_long (Schemas.read_arrow objects) [] items arrows is in (
      omega arith,
      behind (AreArrows objects) (Schemas.read_arrow objects) (λ before value arrow. one_arrow_more objects before value arrow)
          [] items arrows (record { names = no_names arrow_name Arrows; ends = refl }) is,
    ))

-- ---- attributes

-- an attribute that is read behind others is new, and belongs to an object
record IsAttribute (objects : List (List ℕ)) (before : List AttrDef) (attribute : AttrDef) : Type 0 where
  new : IsNew attribute_name before attribute
  holder : has_holder (length objects) attribute ≡ true

-- what is read behind other attributes is one
attribute_new : (objects : List (List ℕ)) (before : List AttrDef) (value : Data) (attribute : AttrDef)
    → Schemas.read_attribute objects before value ≡ Ok attribute → IsAttribute objects before attribute
attribute_new objects before value =
    let P = IsAttribute objects before in
    let unknown = fault_at 6 Attributes (length before) 0 in
    chain P (some_or (fault_at 2 Attributes (length before) 0) (option_and_then Schemas.attribute_texts (as_list value))) _
    (λ texts there. checked_then P (fault_at 4 Attributes (length before) 0) (is_name texts.name) _
    (λ named. checked_then P (fault_at 5 Attributes (length before) 0) (not (list_any (λ (attribute : AttrDef). bytes_eq texts.name attribute.name) before)) _
    (λ apart. chain P (Schemas.object_named unknown objects texts.object) _
    (λ object of attribute is. let one : record { name = texts.name; object = object; kind = texts.kind } ≡ attribute = cc in
    subst P one (record {
      new = record { named = named; apart = not-true (list_any (λ (attribute : AttrDef). bytes_eq texts.name attribute.name) before) apart };
      holder = object_known unknown objects texts.object object of;
    })))))

-- attributes of the objects, with names
record AreAttributes (objects : List (List ℕ)) (attributes : List AttrDef) : Type 0 where
  names : HasNames attribute_name Attributes attributes
  holders : list_all (has_holder (length objects)) attributes ≡ true

-- one attribute more
one_attribute_more : (objects : List (List ℕ)) (before : List AttrDef) (value : Data) (attribute : AttrDef)
    → AreAttributes objects before → Schemas.read_attribute objects before value ≡ Ok attribute → AreAttributes objects (before ++ attribute ∷ [])
one_attribute_more objects before value attribute attributes here =
    let one = attribute_new objects before value attribute here in record {
      names = one_name_more attribute_name Attributes before attribute attributes.names one.new;
      holders = rw (list_all-append (has_holder (length objects)) before (attribute ∷ []), attributes.holders, one.holder) refl;
    }

-- the attributes that are read
attributes_read : (objects : List (List ℕ)) (value : Option Data) (attributes : List AttrDef) → Schemas.read_attributes objects value ≡ Ok attributes
    → IsFew most_attributes attributes × AreAttributes objects attributes
attributes_read objects value =
    chain (λ attributes. IsFew most_attributes attributes × AreAttributes objects attributes) (Schemas.read_list_or_none Attributes most_attributes value) (each_after (Schemas.read_attribute objects) [])
    (λ items read attributes is.
    let few : length items ≤ most_attributes = few_or_none Attributes most_attributes value items read in
    let long : length attributes ≡ 0 + length items = behind_long (Schemas.read_attribute objects) [] items attributes is in (
      omega arith,
      behind (AreAttributes objects) (Schemas.read_attribute objects) (λ before value attribute. one_attribute_more objects before value attribute)
          [] items attributes (record { names = no_names attribute_name Attributes; holders = refl }) is,
    ))

-- ---- equations

-- an equation is of the schema, its sides are short and meet
record IsEquation (objects : List (List ℕ)) (arrows : List ArrowDef) (equation : parts.Equation) : Type 0 where
  short : has_short_sides equation ≡ true
  known : is_of_schema (length objects) (length arrows) equation ≡ true
  meet : sides_meet arrows equation ≡ true

-- as many arrows are read as a path has names
path_long : (fault : DocFault) (arrows : List ArrowDef) (names : List (List ℕ)) (path : List ArrowId)
    → Schemas.path_named fault arrows names ≡ Ok path → length path ≡ length names
path_long fault arrows names path = each_long (λ place name. Schemas.arrow_named fault arrows name) 0 names path

-- what is read as an equation is one
equation_is : (objects : List (List ℕ)) (arrows : List ArrowDef) (place : ℕ) (value : Data) (equation : parts.Equation)
    → Schemas.read_equation objects arrows place value ≡ Ok equation → IsEquation objects arrows equation
equation_is objects arrows place value =
    let P = IsEquation objects arrows in
    let unknown = fault_at 6 Equations place 0 in
    chain P (some_or (fault_at 2 Equations place 0) (option_and_then Schemas.equation_texts (as_list value))) _
    (λ texts there. checked_then P (fault_at 4 Equations place 0) (Schemas.has_short_paths texts) _
    (λ short. chain P (Schemas.object_named unknown objects texts.object) _
    (λ object of. chain P (Schemas.path_named unknown arrows texts.left) _
    (λ left first. chain P (Schemas.path_named unknown arrows texts.right) _
    (λ right second.
    let entry : parts.Equation = record { object = object; left = left; right = right } in
    checked_then P (fault_at 7 Equations place 0) (sides_meet arrows entry) (Ok entry)
    (λ meet equation is. let one : entry ≡ equation = cc in
    subst P one (record {
      short = rw (path_long unknown arrows texts.left left first, path_long unknown arrows texts.right right second) short;
      known = rw (object_known unknown objects texts.object object of, path_known unknown arrows texts.left left first, path_known unknown arrows texts.right right second) refl;
      meet = meet;
    })))))))

-- the equations that are read
record AreEquations (objects : List (List ℕ)) (arrows : List ArrowDef) (equations : List parts.Equation) : Type 0 where
  few : length equations ≤ most_equations
  short : list_all has_short_sides equations ≡ true
  known : list_all (is_of_schema (length objects) (length arrows)) equations ≡ true
  meet : list_all (sides_meet arrows) equations ≡ true

-- they are equations of the schema
equations_read : (objects : List (List ℕ)) (arrows : List ArrowDef) (value : Option Data) (equations : List parts.Equation)
    → Schemas.read_equations objects arrows value ≡ Ok equations → AreEquations objects arrows equations
equations_read objects arrows value =
    let f = Schemas.read_equation objects arrows in
    chain (AreEquations objects arrows) (Schemas.read_list_or_none Equations most_equations value) (each_in f 0)
    (λ items read equations is.
    let few : length items ≤ most_equations = few_or_none Equations most_equations value items read in
    let long : length equations ≡ length items = each_long f 0 items equations is in record {
      few = omega arith;
      short = each_passes has_short_sides f (λ i x y here. (equation_is objects arrows i x y here).short) 0 items equations is;
      known = each_passes (is_of_schema (length objects) (length arrows)) f (λ i x y here. (equation_is objects arrows i x y here).known) 0 items equations is;
      meet = each_passes (sides_meet arrows) f (λ i x y here. (equation_is objects arrows i x y here).meet) 0 items equations is;
    })

-- ---- the whole

-- what is read as the sections of a schema is one
pub sections_sound : (objects_value arrows_value : Data) (attributes_value equations_value : Option Data)
    (objects : List (List ℕ)) (arrows : List ArrowDef) (attributes : List AttrDef) (equations : List parts.Equation)
    → Schemas.read_objects objects_value ≡ Ok objects → Schemas.read_arrows objects arrows_value ≡ Ok arrows
    → Schemas.read_attributes objects attributes_value ≡ Ok attributes → Schemas.read_equations objects arrows equations_value ≡ Ok equations
    → schema_fault (record { objects = objects; arrows = arrows; attributes = attributes; equations = equations }) ≡ None
sections_sound objects_value arrows_value attributes_value equations_value objects arrows attributes equations objects_are arrows_are attributes_are equations_are =
    let first = objects_read objects_value objects objects_are in
    let second = arrows_read objects arrows_value arrows arrows_are in
    let third = attributes_read objects attributes_value attributes attributes_are in
    let fourth = equations_read objects arrows equations_value equations equations_are in
    let lists : Presentation = record { objects = objects; arrows = arrows; attributes = attributes; equations = equations } in
    misplaced_first lists None
    (rw (
      le-leb (length objects) most_objects first.0,
      le-leb (length arrows) most_arrows second.0,
      le-leb (length attributes) most_attributes third.0,
      le-leb (length equations) most_equations fourth.few,
      first.1.named,
      second.1.names.named,
      third.1.names.named,
      fourth.short,
    ) refl)
    first.1.apart second.1.names.apart third.1.names.apart
    (rw (
      none_unless (has_ends (length objects)) (λ place. faults.Unknown Arrows place) 0 arrows second.1.ends,
      none_unless (has_holder (length objects)) (λ place. faults.Unknown Attributes place) 0 attributes third.1.holders,
      none_unless (is_of_schema (length objects) (length arrows)) (λ place. faults.Unknown Equations place) 0 equations fourth.known,
      none_unless (sides_meet arrows) (λ place. faults.Ends place) 0 equations fourth.meet,
    ) refl)
