-- What is wrong with the entries of an instance, by the codes of docs/FORMAT.md, and that its readers tell the first of it.
use Rattle.std.specs.Prelude.{◌≡◌, ◌≢◌, ◌<◌, ◌≤◌, ◌⊎◌, ℕ, Bool, true, List, [], ◌∷◌, Option, Some, None, Ok, Err, codes, length, slice_get, slice_index, unwrap_or}
use Rattle.serde_json.specs.Data.{Data}
use Rattle.serde_json.specs.Find.{as_str, get}
use Rattle.rw_schema.specs.declared.atom.Atom.{Atom}
use Rattle.rw_schema.specs.declared.parts.Equation as equations
use Rattle.rw_schema.specs.declared.section.Section.TheVariants.{Instance, Parts, Rows, Cells, Equation}
use Rattle.rw_schema.specs.declared.signature.AttrEnds.{AttrEnds}
use Rattle.rw_schema.specs.Atoms.{is_of_kind}
use Rattle.rw_schema.specs.Signature.{Signature, source_of, holder_of}
use Rattle.rw_spec.specs.Ends.{target_of}
use Rattle.rw_spec.specs.Instance as instances
use Rattle.rw_doc.specs.declared.fault.DocFault.{DocFault}
use Rattle.rw_doc.specs.Faults.{fault_of}
use Rattle.rw_doc.specs.Entries.{TellsFirst, TellsFirstOfLists, TellsInOrder, HasOtherForm, IsWritten, form_at, no_code}
use Rattle.rw_doc.specs.Instances.{instance_keys, read_instance, lists_or_none, read_parts, read_rows, read_cells, rows_of, with_equations}
use Rattle.rw_doc.specs.Json.{as_list, as_count, atom_of, is_null}
use Rattle.rw_doc.specs.Limits.{most_parts, longest_text}
use Rattle.rw_doc.specs.SchemaEntries.{items_in, member_at, HasOtherKeys}

-- there is no list, or one of another length
abbrev pub IsNoListOf : ℕ → Option (List Data) → Type 0
IsNoListOf count None = Unit {0}
IsNoListOf count (Some items) = length items ≢ count

-- a value stands at the place, and is no list of this length
abbrev pub HasNoListOf : ℕ → List Data → ℕ → Type 0
HasNoListOf count items place = (value : Data) × (slice_get items place ≡ Some value) × IsNoListOf count (as_list value)

-- the items of the list at the place
abbrev pub list_in : List Data → ℕ → List Data
list_in items place = unwrap_or (form_at as_list items place) []

-- ---- parts

-- the list itself: 2, it is no list of one value for each object
abbrev pub PartsHave : Signature → Data → ℕ → Type 0
PartsHave C value code = (code ≡ 2) × IsNoListOf C.objects (as_list value)

-- the number of the object's parts: 2, it is no count; 4, it is too great
abbrev pub PartCountHas : List Data → ℕ → ℕ → Type 0
PartCountHas items object code =
    (code ≡ 2) × HasOtherForm as_count items object
    ⊎ (code ≡ 4) × IsWritten as_count items object (λ count. most_parts < count)

-- the numbers of parts tell their first fault
abbrev pub PartsTellFirst : Type 0
PartsTellFirst = (C : Signature) (value : Data) → TellsFirst Parts (PartsHave C value) (PartCountHas (items_in value)) (read_parts C value)

-- ---- rows

-- the list itself: 2, it is no list of one value for each arrow
abbrev pub RowsHave : Signature → Data → ℕ → Type 0
RowsHave C value code = (code ≡ 2) × IsNoListOf (length C.arrows) (as_list value)

-- the arrow's list: 2, it is no list of one value for each part of the arrow's source
abbrev pub RowHas : Signature → List ℕ → List Data → ℕ → ℕ → Type 0
RowHas C parts items arrow code = (code ≡ 2) × HasNoListOf (slice_index parts (source_of C arrow)) items arrow

-- the image at a position of the arrow's list: 2, it is no count; 8, it is no part of the arrow's target
abbrev pub ImageHas : Signature → List ℕ → List Data → ℕ → ℕ → ℕ → Type 0
ImageHas C parts items arrow position code =
    (code ≡ 2) × HasOtherForm as_count (list_in items arrow) position
    ⊎ (code ≡ 8) × IsWritten as_count (list_in items arrow) position (λ image. slice_index parts (target_of C arrow) ≤ image)

-- the rows tell their first fault
abbrev pub RowsTellFirst : Type 0
RowsTellFirst = (C : Signature) (parts : List ℕ) (value : Data)
    → TellsFirstOfLists Rows (RowsHave C value) (RowHas C parts (items_in value)) (ImageHas C parts (items_in value)) (read_rows C parts value)

-- ---- cells

-- the list itself: 2, it is no list of one value for each attribute; where it is absent, it is read as one without a value
abbrev pub CellsHave : Signature → Option Data → ℕ → Type 0
CellsHave C value code = (code ≡ 2) × IsNoListOf (length C.attributes) (lists_or_none value)

-- the attribute's list: 2, it is no list of one value for each part of the attribute's object
abbrev pub CellListHas : Signature → List ℕ → List Data → ℕ → ℕ → Type 0
CellListHas C parts items attribute code = (code ≡ 2) × HasNoListOf (slice_index parts (holder_of C attribute)) items attribute

-- the value is what a cell of the attribute may hold: an atom of its kind, or nothing where a blank may stand
abbrev pub IsCellOf : Signature → Bool → ℕ → Data → Type 0
IsCellOf C blanks attribute value =
    ((is_null value ≡ true) × (blanks ≡ true))
    ⊎ ((atom : Atom) × (ends : AttrEnds) × (atom_of value ≡ Some atom) × (slice_get C.attributes attribute ≡ Some ends) × (is_of_kind ends.kind atom ≡ true))

-- the cell at a position of the attribute's list: 4, it is a text with too many bytes; 9, it is none that may stand there
abbrev pub CellHas : Signature → Bool → List Data → ℕ → ℕ → ℕ → Type 0
CellHas C blanks items attribute position code =
    (code ≡ 4) × IsWritten as_str (list_in items attribute) position (λ text. longest_text < length text)
    ⊎ (code ≡ 9) × ((value : Data) × (slice_get (list_in items attribute) position ≡ Some value) × (IsCellOf C blanks attribute value → ⊥))

-- the items of the list of cells
abbrev pub cell_items : Option Data → List Data
cell_items value = unwrap_or (lists_or_none value) []

-- the cells tell their first fault
abbrev pub CellsTellFirst : Type 0
CellsTellFirst = (C : Signature) (blanks : Bool) (parts : List ℕ) (value : Option Data)
    → TellsFirstOfLists Cells (CellsHave C value) (CellListHas C parts (cell_items value)) (CellHas C blanks (cell_items value)) (read_cells C blanks parts value)

-- ---- equations

-- the equation at a part of its object: 10, its paths lead to different parts
abbrev pub EquationFailsAt : Signature → List ℕ → instances.Instance → ℕ → ℕ → ℕ → Type 0
EquationFailsAt C parts X place part code = (code ≡ 10) × ((equation : equations.Equation) × (slice_get C.equations place ≡ Some equation)
    × (part < slice_index parts equation.object.0) × (instances.follow X equation.left part ≢ instances.follow X equation.right part))

-- the equations tell where the first fails
abbrev pub FailuresTellFirst : Type 0
FailuresTellFirst = (C : Signature) (parts : List ℕ) (arrows : List (List ℕ)) (cells : List (List (Option Atom)))
    → TellsFirstOfLists Equation no_code (λ place. no_code) (EquationFailsAt C parts (instances.instance_of C (rows_of parts arrows cells)))
    (with_equations C (rows_of parts arrows cells))

-- ---- the whole

-- the numbers of parts of the instance are these
abbrev pub HasParts : Signature → Data → List ℕ → Type 0
HasParts C value parts = read_parts C (member_at (codes "parts") value) ≡ Ok parts

-- its rows are these, over the numbers of parts
abbrev pub HasRows : Signature → Data → List ℕ → List (List ℕ) → Type 0
HasRows C value parts arrows = read_rows C parts (member_at (codes "rows") value) ≡ Ok arrows

-- its cells are these
abbrev pub HasCells : Signature → Bool → Data → List ℕ → List (List (Option Atom)) → Type 0
HasCells C blanks value parts cells = read_cells C blanks parts (get (codes "cells") value) ≡ Ok cells

-- the faults of an instance's sections, in the order of docs/FORMAT.md: its own keys, the numbers of parts, the rows, the
-- cells, the equations
abbrev pub InstanceHas : Signature → Bool → Data → ℕ → DocFault → Type 0
InstanceHas C blanks value place fault =
    (place ≡ 0) × ((fault ≡ fault_of 2 Instance) × HasOtherKeys instance_keys (codes "parts" ∷ codes "rows" ∷ []) value)
    ⊎ (place ≡ 1) × (read_parts C (member_at (codes "parts") value) ≡ Err fault)
    ⊎ (place ≡ 2) × ((parts : List ℕ) × HasParts C value parts × (read_rows C parts (member_at (codes "rows") value) ≡ Err fault))
    ⊎ (place ≡ 3) × ((parts : List ℕ) × HasParts C value parts × (read_cells C blanks parts (get (codes "cells") value) ≡ Err fault))
    ⊎ (place ≡ 4) × ((parts : List ℕ) × (arrows : List (List ℕ)) × (cells : List (List (Option Atom))) × HasParts C value parts × HasRows C value parts arrows
    × HasCells C blanks value parts cells × (with_equations C (rows_of parts arrows cells) ≡ Err fault))

-- an instance tells the fault of its first section that has one
abbrev pub InstanceTellsFirst : Type 0
InstanceTellsFirst = (C : Signature) (blanks : Bool) (value : Data) → TellsInOrder (InstanceHas C blanks value) (read_instance C blanks value)
