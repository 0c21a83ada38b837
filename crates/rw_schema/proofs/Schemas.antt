-- What holds of lists that are a schema.
use Rattle.std.proofs.Common.{◌≡◌, ℕ, ◌+◌, ◌<◌, Bool, true, false, ◌&&◌, not, nat_lt, nat_le, ◌≤◌, Err, arith, Option, Some, None, List, [], ◌∷◌, length, map, take, drop, get_or, slice_get, refl, sym, ap, ◌∙◌, ltb-true}
use Rattle.std.specs.List.{list_all, list_any}
use Rattle.std.specs.Str.{bytes_eq}
use Rattle.std.proofs.lemmas.Bool.{and_parts, leb-true}
use Rattle.rw_schema.specs.declared.parts.ArrowDef.{ArrowDef}
use Rattle.rw_schema.specs.declared.parts.AttrDef.{AttrDef}
use Rattle.rw_schema.specs.declared.parts.Equation.{Equation}
use Rattle.rw_schema.specs.declared.section.Section.{Section}
use Rattle.rw_schema.specs.declared.section.Section.TheVariants.{Objects, Arrows, Attributes, Equations}
use Rattle.rw_schema.specs.declared.fault.SchemaFault.{SchemaFault}
use Rattle.rw_schema.specs.declared.fault.SchemaFault.TheVariants.{Limit, Twice, Unknown, Ends, OutOfMemory}
use Rattle.rw_schema.specs.First.{or_else, first_in, fault_unless}
use Rattle.rw_schema.specs.Presentation.{Presentation, signature_of, ends_of_arrow, ends_of_attribute}
use Rattle.rw_schema.specs.SchemaFaults.{has_ends, has_holder, has_arrows, is_of_schema, sides_meet, is_name, has_short_sides, BuildsSchema, is_within_limits, schema_fault, first_twice, first_unknown, first_homeless, first_nameless, first_apart, object_name, arrow_name, attribute_name}
use Rattle.rw_schema.specs.Signature.{IsCategory}
use Rattle.rw_schema.proofs.Firsts.{or_else_none, all_unless, first_here, first_next}
use Rattle.rw_schema.proofs.Lists.{list_all_at, list_any_map, slice_get_mapped}
use Rattle.rw_schema.proofs.Paths.{sides_lead}

-- in a schema each number names something, and the sides of each equation meet
well_placed : (schema : Presentation) → schema_fault schema ≡ None
    → (first_unknown (length schema.objects) schema.arrows ≡ None)
    × (first_homeless (length schema.objects) schema.attributes ≡ None)
    × (first_nameless (length schema.objects) (length schema.arrows) schema.equations ≡ None)
    × (first_apart schema.arrows schema.equations ≡ None)
well_placed schema none =
    let limit = fault_unless (is_within_limits schema) Limit in
    let objects = first_twice object_name Objects schema.objects in
    let arrows = first_twice arrow_name Arrows schema.arrows in
    let attributes = first_twice attribute_name Attributes schema.attributes in
    let unknown = first_unknown (length schema.objects) schema.arrows in
    let homeless = first_homeless (length schema.objects) schema.attributes in
    let nameless = first_nameless (length schema.objects) (length schema.arrows) schema.equations in
    let apart = first_apart schema.arrows schema.equations in
    let fourth = or_else nameless apart in
    let third = or_else homeless fourth in
    let second = or_else unknown third in
    let after_limit = (or_else_none limit (or_else objects (or_else arrows (or_else attributes second))) none).1 in
    let after_objects = (or_else_none objects (or_else arrows (or_else attributes second)) after_limit).1 in
    let after_arrows = (or_else_none arrows (or_else attributes second) after_objects).1 in
    let after_attributes = (or_else_none attributes second after_arrows).1 in
    let known = or_else_none unknown third after_attributes in
    let held = or_else_none homeless fourth known.1 in
    let named = or_else_none nameless apart held.1 in
    (known.0, held.0, named.0, named.1)

-- the ends of a schema's arrows are objects
pub ends_known : (schema : Presentation) → schema_fault schema ≡ None → list_all (has_ends (length schema.objects)) schema.arrows ≡ true
ends_known schema none = all_unless (has_ends (length schema.objects)) (λ place. Unknown Arrows place) 0 schema.arrows (well_placed schema none).0

-- the attributes of a schema belong to objects
pub holders_known : (schema : Presentation) → schema_fault schema ≡ None → list_all (has_holder (length schema.objects)) schema.attributes ≡ true
holders_known schema none = all_unless (has_holder (length schema.objects)) (λ place. Unknown Attributes place) 0 schema.attributes (well_placed schema none).1

-- the numbers in a schema's equations name objects and arrows
pub numbers_known : (schema : Presentation) → schema_fault schema ≡ None
    → list_all (is_of_schema (length schema.objects) (length schema.arrows)) schema.equations ≡ true
numbers_known schema none =
    all_unless (is_of_schema (length schema.objects) (length schema.arrows)) (λ place. Unknown Equations place) 0 schema.equations (well_placed schema none).2

-- the sides of a schema's equations meet
pub sides_known : (schema : Presentation) → schema_fault schema ≡ None → list_all (sides_meet schema.arrows) schema.equations ≡ true
sides_known schema none = all_unless (sides_meet schema.arrows) (λ place. Ends place) 0 schema.equations (well_placed schema none).3

-- the ends of a schema's arrow are objects
pub ends_known_at : (schema : Presentation) (k : ℕ) (arrow : ArrowDef) → schema_fault schema ≡ None → slice_get schema.arrows k ≡ Some arrow
    → (arrow.source.0 < length schema.objects) × (arrow.target.0 < length schema.objects)
ends_known_at schema k arrow none there =
    let ends : has_ends (length schema.objects) arrow ≡ true = list_all_at (has_ends (length schema.objects)) schema.arrows k arrow (ends_known schema none) there in
    let parts = and_parts (nat_lt arrow.source.0 (length schema.objects)) (nat_lt arrow.target.0 (length schema.objects)) ends in
    (ltb-true arrow.source.0 (length schema.objects) parts.0, ltb-true arrow.target.0 (length schema.objects) parts.1)

-- the object of a schema's attribute is one
pub holder_known_at : (schema : Presentation) (k : ℕ) (attribute : AttrDef) → schema_fault schema ≡ None → slice_get schema.attributes k ≡ Some attribute
    → attribute.object.0 < length schema.objects
holder_known_at schema k attribute none there =
    ltb-true attribute.object.0 (length schema.objects) (list_all_at (has_holder (length schema.objects)) schema.attributes k attribute (holders_known schema none) there)

-- the parts of a test of three
three_parts : (x y z : Bool) → (x && y && z) ≡ true → (x ≡ true) × (y ≡ true) × (z ≡ true)
three_parts true true true all = (refl, refl, refl)
three_parts true true false all = cc
three_parts true false z all = cc
three_parts false y z all = cc

-- the numbers in an equation that is of the schema name an object and arrows
pub numbers_of : (objects arrows : ℕ) (equation : Equation) → is_of_schema objects arrows equation ≡ true
    → (equation.object.0 < objects) × (has_arrows arrows equation.left ≡ true) × (has_arrows arrows equation.right ≡ true)
numbers_of objects arrows equation known =
    let parts = three_parts (nat_lt equation.object.0 objects) (has_arrows arrows equation.left) (has_arrows arrows equation.right) known in
    (ltb-true equation.object.0 objects parts.0, parts.1, parts.2)

-- the sides of equations that are of the schema have arrows alone
all_sides : (objects arrows : ℕ) (equations : List Equation) → list_all (is_of_schema objects arrows) equations ≡ true
    → list_all (λ equation. has_arrows arrows equation.left && has_arrows arrows equation.right) equations ≡ true
all_sides objects arrows [] known = refl
all_sides objects arrows (equation ∷ equations) known =
    let parts = and_parts (is_of_schema objects arrows equation) (list_all (is_of_schema objects arrows) equations) known in
    let here = numbers_of objects arrows equation parts.0 in
    rw (here.1, here.2) (all_sides objects arrows equations parts.1)

-- where each number in the equations names something, their sides have arrows alone
pub sides_are_arrows : (objects arrows : ℕ) (equations : List Equation) → first_nameless objects arrows equations ≡ None
    → list_all (λ equation. has_arrows arrows equation.left && has_arrows arrows equation.right) equations ≡ true
sides_are_arrows objects arrows equations none =
    all_sides objects arrows equations (all_unless (is_of_schema objects arrows) (λ place. Unknown Equations place) 0 equations none)

-- the numbers in a schema's equation name an object and arrows
numbers_known_at : (schema : Presentation) (k : ℕ) (equation : Equation) → schema_fault schema ≡ None → slice_get schema.equations k ≡ Some equation
    → (equation.object.0 < length schema.objects) × (has_arrows (length schema.arrows) equation.left ≡ true) × (has_arrows (length schema.arrows) equation.right ≡ true)
numbers_known_at schema k equation none there =
    let test = is_of_schema (length schema.objects) (length schema.arrows) in
    numbers_of (length schema.objects) (length schema.arrows) equation (list_all_at test schema.equations k equation (numbers_known schema none) there)

-- a schema presents a category
pub presents_category : (schema : Presentation) → schema_fault schema ≡ None → IsCategory (signature_of schema)
presents_category schema none = record {
  sources = λ k ends there.
      let found = slice_get_mapped ends_of_arrow schema.arrows k ends there in
      rw (← found.2) (ends_known_at schema k found.0 none found.1).0;
  targets = λ k ends there.
      let found = slice_get_mapped ends_of_arrow schema.arrows k ends there in
      rw (← found.2) (ends_known_at schema k found.0 none found.1).1;
  holders = λ k ends there.
      let found = slice_get_mapped ends_of_attribute schema.attributes k ends there in
      rw (← found.2) (holder_known_at schema k found.0 none found.1);
  starts = λ k equation there. (numbers_known_at schema k equation none there).0;
  paths = λ k equation there.
      let known = numbers_known_at schema k equation none there in
      let meet = list_all_at (sides_meet schema.arrows) schema.equations k equation (sides_known schema none) there in
      sides_lead schema equation known.1 known.2 meet;
}

-- the fault of an item whose name an earlier one has
abbrev pub twice_at : {X : Type 0} → (X → List ℕ) → Section → List X → ℕ → X → Option SchemaFault
twice_at name section items place item = fault_unless (not (list_any (λ other. bytes_eq (name item) (name other)) (take place items))) (Twice section place)

-- the name at a place is among those before it: it is the first that comes twice
pub twice_here : {X : Type 0} (name : X → List ℕ) (section : Section) (items : List X) (names : List (List ℕ)) (i : ℕ) (x : X)
    → names ≡ map name (take i items) → i < length items → x ≡ get_or items i x → list_any (bytes_eq (name x)) names ≡ true
    → first_in (twice_at name section items) i (drop i items) ≡ Some (Twice section i)
twice_here name section items names i x are within is among =
    let found : list_any (λ other. bytes_eq (name x) (name other)) (take i items) ≡ true =
    sym (list_any_map (bytes_eq (name x)) name (take i items)) ∙ ap (list_any (bytes_eq (name x))) (sym are) ∙ among in
    first_here (twice_at name section items) i items x (Twice section i) within is (rw found refl)

-- the name at a place is not among those before it: the first that comes twice is later
pub twice_next : {X : Type 0} (name : X → List ℕ) (section : Section) (items : List X) (names : List (List ℕ)) (i : ℕ) (x : X)
    → names ≡ map name (take i items) → i < length items → x ≡ get_or items i x → list_any (bytes_eq (name x)) names ≡ false
    → first_in (twice_at name section items) i (drop i items) ≡ first_in (twice_at name section items) (i + 1) (drop (i + 1) items)
twice_next name section items names i x are within is missing =
    let fresh : list_any (λ other. bytes_eq (name x) (name other)) (take i items) ≡ false =
    sym (list_any_map (bytes_eq (name x)) name (take i items)) ∙ ap (list_any (bytes_eq (name x))) (sym are) ∙ missing in
    first_next (twice_at name section items) i items x within is (rw fresh refl)

-- the second to fourth parts of a test of eight
middle_parts : (a b c d e f g h : Bool) → (a && b && c && d && e && f && g && h) ≡ true → (b ≡ true) × (c ≡ true) × (d ≡ true)
middle_parts a b c d e f g h all =
    let seven = and_parts (a && b && c && d && e && f && g) h all in
    let six = and_parts (a && b && c && d && e && f) g seven.0 in
    let five = and_parts (a && b && c && d && e) f six.0 in
    let four = and_parts (a && b && c && d) e five.0 in
    let three = and_parts (a && b && c) d four.0 in
    let two = and_parts (a && b) c three.0 in
    let one = and_parts a b two.0 in
    (one.1, two.1, three.1)

-- lists within the limits have at most 256 arrows, attributes and equations
pub counts_within : (schema : Presentation) → is_within_limits schema ≡ true
    → (length schema.arrows < 257) × (length schema.attributes < 257) × (length schema.equations < 257)
counts_within schema within =
    let parts = middle_parts (nat_le (length schema.objects) 64) (nat_le (length schema.arrows) 256) (nat_le (length schema.attributes) 256) (nat_le (length schema.equations) 256)
    (list_all is_name schema.objects) (list_all (λ (arrow : ArrowDef). is_name arrow.name) schema.arrows)
    (list_all (λ (attribute : AttrDef). is_name attribute.name) schema.attributes) (list_all has_short_sides schema.equations) within in
    let arrows : length schema.arrows ≤ 256 = leb-true (length schema.arrows) 256 parts.0 in
    let attributes : length schema.attributes ≤ 256 = leb-true (length schema.attributes) 256 parts.1 in
    let equations : length schema.equations ≤ 256 = leb-true (length schema.equations) 256 parts.2 in
    (omega arith, omega arith, omega arith)

-- the first fault of lists, answered
pub builds_fault : (lists : Presentation) (fault : SchemaFault) → schema_fault lists ≡ Some fault → BuildsSchema lists (Err fault)
builds_fault lists OutOfMemory is = tt
builds_fault lists Limit is = is
builds_fault lists (Twice section index) is = is
builds_fault lists (Unknown section index) is = is
builds_fault lists (Ends equation) is = is

-- the fault of lists within the limits, with each name once, is the first number that names nothing or the first sides that do not meet
pub misplaced_first : (lists : Presentation) (fault : Option SchemaFault) → is_within_limits lists ≡ true
    → first_twice object_name Objects lists.objects ≡ None → first_twice arrow_name Arrows lists.arrows ≡ None → first_twice attribute_name Attributes lists.attributes ≡ None
    → fault ≡ or_else (first_unknown (length lists.objects) lists.arrows) (or_else (first_homeless (length lists.objects) lists.attributes)
    (or_else (first_nameless (length lists.objects) (length lists.arrows) lists.equations) (first_apart lists.arrows lists.equations)))
    → schema_fault lists ≡ fault
misplaced_first lists fault within objects arrows attributes is = rw (within, objects, arrows, attributes, is) refl
