-- What is wrong with the pieces of a span or a cospan, by the codes of docs/FORMAT.md, and that their readers tell the first of it.
use Rattle.std.specs.Prelude.{◌≡◌, ◌≢◌, ◌<◌, ◌≤◌, ◌⊎◌, ℕ, true, length, List, Option, Some, None, Ok, Err, slice_get, slice_index}
use Rattle.serde_json.specs.Data.{Data}
use Rattle.serde_json.specs.Find.{as_str}
use Rattle.rw_schema.specs.declared.atom.Atom.{Atom}
use Rattle.rw_schema.specs.declared.section.Section.{Section}
use Rattle.rw_schema.specs.declared.section.Section.TheVariants as sections
use Rattle.rw_schema.specs.declared.signature.ArrowEnds.{ArrowEnds}
use Rattle.rw_schema.specs.declared.signature.AttrEnds.{AttrEnds}
use Rattle.rw_schema.specs.RowLists.{list_at}
use Rattle.rw_schema.specs.Signature.{Signature}
use Rattle.rw_spec.specs.Homomorphism.{map_of}
use Rattle.rw_spec.specs.Instance.{Instance, instance_of}
use Rattle.rw_spec.specs.Tabled.{Tabled, instance_of_table}
use Rattle.rw_doc.specs.declared.fault.DocFault.{DocFault}
use Rattle.rw_doc.specs.declared.piece.Piece.{Piece}
use Rattle.rw_doc.specs.Entries.{TellsLeast, TellsInOrder}
use Rattle.rw_doc.specs.InstanceEntries.{IsCellOf, EquationFailsAt}
use Rattle.rw_doc.specs.Instances.{rows_of}
use Rattle.rw_doc.specs.Limits.{most_parts, longest_text}
use Rattle.rw_doc.specs.Numbers.{as_number_lists}
use Rattle.rw_doc.specs.Pieces.{fault_in}
use Rattle.rw_doc.specs.SchemaEntries.{member_at, HasOtherKeys}
use Rattle.rw_docspan.specs.Frames.{FrameKeys, ThreeLists, all_keys, piece_of}
use Rattle.rw_docspan.specs.Instances.{InstanceForm, form_of, cells_of, read_instance}
use Rattle.rw_docspan.specs.Maps.{read_map}
use Rattle.rw_docspan.specs.Spans.{span_keys, cospan_keys, read_span, read_cospan}

-- ---- instances

-- what is written of the instance has the property
abbrev pub IsFormWith : Data → (InstanceForm → Type 0) → Type 0
IsFormWith value Property = (form : InstanceForm) × (form_of value ≡ Some form) × Property form

-- a list has another length than the signature asks for
abbrev pub HasOtherLength : Signature → InstanceForm → Type 0
HasOtherLength C form =
    (length form.parts ≢ C.objects)
    ⊎ (length form.rows ≢ length C.arrows)
    ⊎ (length form.cells ≢ length C.attributes)
    ⊎ ((arrow : ℕ) × (ends : ArrowEnds) × (slice_get C.arrows arrow ≡ Some ends) × (length (list_at form.rows arrow) ≢ slice_index form.parts ends.source.0))
    ⊎ ((attribute : ℕ) × (ends : AttrEnds) × (slice_get C.attributes attribute ≡ Some ends)
    × (length (list_at form.cells attribute) ≢ slice_index form.parts ends.object.0))

-- an object has too many parts, or a text too many bytes
abbrev pub IsPastLimits : InstanceForm → Type 0
IsPastLimits form =
    ((object : ℕ) × (count : ℕ) × (slice_get form.parts object ≡ Some count) × (most_parts < count))
    ⊎ ((list : ℕ) × (values : List Data) × (position : ℕ) × (value : Data) × (text : List ℕ) × (slice_get form.cells list ≡ Some values)
    × (slice_get values position ≡ Some value) × (as_str value ≡ Some text) × (longest_text < length text))

-- an image is no part of its arrow's target
abbrev pub HasStrayImage : Signature → InstanceForm → Type 0
HasStrayImage C form = (arrow : ℕ) × (ends : ArrowEnds) × (position : ℕ) × (image : ℕ) × (slice_get C.arrows arrow ≡ Some ends)
    × (slice_get (list_at form.rows arrow) position ≡ Some image) × (slice_index form.parts ends.target.0 ≤ image)

-- a cell holds what is neither blank nor an atom of its attribute's kind
abbrev pub HasOtherCell : Signature → InstanceForm → Type 0
HasOtherCell C form = (attribute : ℕ) × (ends : AttrEnds) × (position : ℕ) × (value : Data) × (slice_get C.attributes attribute ≡ Some ends)
    × (slice_get (list_at form.cells attribute) position ≡ Some value) × (IsCellOf C true attribute value → ⊥)

-- an equation fails at a part
abbrev pub HasFailure : Signature → InstanceForm → Type 0
HasFailure C form = (cells : List (List (Option Atom))) × (equation : ℕ) × (part : ℕ) × (cells_of C form.cells ≡ Some cells)
    × EquationFailsAt C form.parts (instance_of C (rows_of form.parts form.rows cells)) equation part 10

-- the instance of a piece: 2, a value of another form or a list of another length; 4, a limit; 8, an image; 9, a cell; 10, an
-- equation
abbrev pub InstanceHas : Signature → Data → ℕ → Type 0
InstanceHas C value code =
    (code ≡ 2) × (form_of value ≡ None)
    ⊎ (code ≡ 2) × IsFormWith value (HasOtherLength C)
    ⊎ (code ≡ 4) × IsFormWith value IsPastLimits
    ⊎ (code ≡ 8) × IsFormWith value (HasStrayImage C)
    ⊎ (code ≡ 9) × IsFormWith value (HasOtherCell C)
    ⊎ (code ≡ 10) × IsFormWith value (HasFailure C)

-- an instance of a piece tells its least code
abbrev pub InstancesTellLeast : Type 0
InstancesTellLeast = (C : Signature) (piece : Piece) (value : Data) → TellsLeast piece (InstanceHas C value) (read_instance C piece value)

-- ---- maps

-- the lists of images that are written have the property
abbrev pub AreImagesWith : Data → (List (List ℕ) → Type 0) → Type 0
AreImagesWith value Property = (images : List (List ℕ)) × (as_number_lists value ≡ Some images) × Property images

-- an object's list has not one image for each part
abbrev pub HasOtherShape : Signature → Instance → List (List ℕ) → Type 0
HasOtherShape C X images = (object : ℕ) × (object < C.objects) × (length (list_at images object) ≢ length (X.names object))

-- an image is no part of the instance into which the map leads
abbrev pub StraysFrom : Signature → Instance → List (List ℕ) → Type 0
StraysFrom C Y images = (object : ℕ) × (position : ℕ) × (image : ℕ) × (object < C.objects) × (slice_get (list_at images object) position ≡ Some image)
    × ((place : ℕ) → slice_get (Y.names object) place ≡ Some image → ⊥)

-- at a part, the image of an arrow's value is not the arrow's value at the image
abbrev pub IsNotNatural : Signature → Instance → Instance → List (List ℕ) → Type 0
IsNotNatural C X Y images = (arrow : ℕ) × (ends : ArrowEnds) × (position : ℕ) × (part : ℕ) × (slice_get C.arrows arrow ≡ Some ends)
    × (slice_get (X.names ends.source.0) position ≡ Some part)
    × (map_of X images ends.target.0 (X.value arrow part) ≢ Y.value arrow (map_of X images ends.source.0 part))

-- a part has an atom, and its image has not the same
abbrev pub LosesAtom : Signature → Instance → Instance → List (List ℕ) → Type 0
LosesAtom C X Y images = (attribute : ℕ) × (ends : AttrEnds) × (position : ℕ) × (part : ℕ) × (atom : Atom) × (slice_get C.attributes attribute ≡ Some ends)
    × (slice_get (X.names ends.object.0) position ≡ Some part) × (X.cell attribute part ≡ Some atom)
    × (Y.cell attribute (map_of X images ends.object.0 part) ≢ Some atom)

-- the map of a piece: 2, a value of another form or a list of another length; 8, an image that is not there; 11, it does not
-- commute with an arrow, or loses an atom
abbrev pub MapHas : Signature → Instance → Instance → Data → ℕ → Type 0
MapHas C X Y value code =
    (code ≡ 2) × (as_number_lists value ≡ None)
    ⊎ (code ≡ 2) × AreImagesWith value (λ images. length images ≢ C.objects)
    ⊎ (code ≡ 2) × AreImagesWith value (HasOtherShape C X)
    ⊎ (code ≡ 8) × AreImagesWith value (StraysFrom C Y)
    ⊎ (code ≡ 11) × AreImagesWith value (IsNotNatural C X Y)
    ⊎ (code ≡ 11) × AreImagesWith value (LosesAtom C X Y)

-- a map of a piece tells its least code
abbrev pub MapsTellLeast : Type 0
MapsTellLeast = (C : Signature) (piece : Piece) (from to : Tabled) (value : Data)
    → TellsLeast piece (MapHas C (instance_of_table from) (instance_of_table to) value) (read_map C piece from to value)

-- ---- spans and cospans

-- the three instances that are read
abbrev pub HasThree : Signature → Section → FrameKeys → Data → ThreeLists → Type 0
HasThree C section keys value three =
    (read_instance C (piece_of section 1) (member_at keys.first value) ≡ Ok three.first)
    × (read_instance C (piece_of section 2) (member_at keys.second value) ≡ Ok three.second)
    × (read_instance C (piece_of section 3) (member_at keys.third value) ≡ Ok three.third)

-- the faults of the pieces, in their order: 0 the keys, 1 to 3 the instances, 4 and 5 the maps, each between two of these
abbrev pub FrameHas : Signature → Section → FrameKeys → (ThreeLists → Tabled) → (ThreeLists → Tabled) → (ThreeLists → Tabled) → (ThreeLists → Tabled)
    → Data → ℕ → DocFault → Type 0
FrameHas C section keys from_first to_first from_second to_second value place fault =
    (place ≡ 0) × ((fault ≡ fault_in (piece_of section 0) 2) × HasOtherKeys (all_keys keys) (all_keys keys) value)
    ⊎ (place ≡ 1) × (read_instance C (piece_of section 1) (member_at keys.first value) ≡ Err fault)
    ⊎ (place ≡ 2) × (read_instance C (piece_of section 2) (member_at keys.second value) ≡ Err fault)
    ⊎ (place ≡ 3) × (read_instance C (piece_of section 3) (member_at keys.third value) ≡ Err fault)
    ⊎ (place ≡ 4) × ((three : ThreeLists) × HasThree C section keys value three
    × (read_map C (piece_of section 4) (from_first three) (to_first three) (member_at keys.first_map value) ≡ Err fault))
    ⊎ (place ≡ 5) × ((three : ThreeLists) × HasThree C section keys value three
    × (read_map C (piece_of section 5) (from_second three) (to_second three) (member_at keys.second_map value) ≡ Err fault))

-- a span tells the fault of its first piece that has one: its maps lead from the apex to the left and to the right
abbrev pub SpanTellsFirst : Type 0
SpanTellsFirst = (C : Signature) (value : Data)
    → TellsInOrder (FrameHas C sections.Span span_keys (λ three. three.first) (λ three. three.second) (λ three. three.first) (λ three. three.third) value) (read_span C value)

-- so does a cospan: its maps lead from the left and from the right to the base
abbrev pub CospanTellsFirst : Type 0
CospanTellsFirst = (C : Signature) (value : Data)
    → TellsInOrder (FrameHas C sections.Cospan cospan_keys (λ three. three.first) (λ three. three.third) (λ three. three.second) (λ three. three.third) value) (read_cospan C value)
