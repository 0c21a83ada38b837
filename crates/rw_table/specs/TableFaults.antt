-- When lists are an instance, and the first fault of those that are none.
use Rattle.std.specs.Prelude.{◌≡◌, ◌==◌, ℕ, Bool, true, ◌&&◌, nat_lt, length, List, Option, Some, None, Result, Ok, Err, slice_index}
use Rattle.std.specs.List.{list_all, list_any}
use Rattle.rw_schema.specs.declared.atom.Atom.{Atom}
use Rattle.rw_schema.specs.declared.atom.Kind as kinds
use Rattle.rw_schema.specs.declared.parts.Equation as equations
use Rattle.rw_schema.specs.declared.signature.ArrowEnds.{ArrowEnds}
use Rattle.rw_schema.specs.declared.signature.AttrEnds.{AttrEnds}
use Rattle.rw_schema.specs.Atoms.{is_of_kind}
use Rattle.rw_schema.specs.First.{or_else, first_in, fault_unless, all_in}
use Rattle.rw_schema.specs.RowLists.{RowLists, list_at}
use Rattle.rw_schema.specs.Signature.{Signature}
use Rattle.rw_spec.specs.Ascending.{ascends}
use Rattle.rw_spec.specs.Instance.{Instance, agrees_at, instance_of}
use Rattle.rw_spec.specs.Tabled.{Tabled}
use Rattle.rw_table.specs.declared.fault.TableFault.{TableFault}
use Rattle.rw_table.specs.declared.fault.TableFault.TheVariants.{Shape, Names, Range, Kind, Equation, OutOfMemory}

-- the row has one image for each name of the arrow's source
abbrev pub has_length : RowLists → ℕ → ArrowEnds → Bool
has_length rows arrow ends = length (list_at rows.arrows arrow) == length (list_at rows.names ends.source.0)

-- there is one cell for each name of the attribute's object
abbrev pub has_cells : RowLists → ℕ → AttrEnds → Bool
has_cells rows attribute ends = length (list_at rows.cells attribute) == length (list_at rows.names ends.object.0)

-- there is one list of names and one next name for each object, one row of the right length for each arrow, and one list
-- of cells of the right length for each attribute
abbrev pub has_shape : Signature → RowLists → Bool
has_shape C rows =
    length rows.names == C.objects && length rows.next == C.objects
    && length rows.arrows == length C.arrows && length rows.cells == length C.attributes
    && all_in (has_length rows) 0 C.arrows && all_in (has_cells rows) 0 C.attributes

-- the names ascend strictly, and are below the next name
abbrev pub are_names : ℕ → List ℕ → Bool
are_names next names = ascends names && list_all (λ name. nat_lt name next) names

-- the first object whose names are none
abbrev pub names_fault : RowLists → Option TableFault
names_fault rows =
    first_in (λ object names. fault_unless (are_names (slice_index rows.next object) names) (Names (record { 0 = object }))) 0 rows.names

-- the first image of the row that is no name of the arrow's target
abbrev pub row_fault : RowLists → ℕ → ArrowEnds → Option TableFault
row_fault rows arrow ends =
    first_in (λ position image. fault_unless (list_any (λ name. name == image) (list_at rows.names ends.target.0)) (Range (record { 0 = arrow }) position))
    0 (list_at rows.arrows arrow)

-- the first arrow with such an image
abbrev pub range_fault : Signature → RowLists → Option TableFault
range_fault C rows = first_in (row_fault rows) 0 C.arrows

-- the cell is blank, or its atom is of the kind
abbrev pub is_cell_of : kinds.Kind → Option Atom → Bool
is_cell_of kind None = true
is_cell_of kind (Some atom) = is_of_kind kind atom

-- the first cell of the attribute with an atom of another kind
abbrev pub cell_fault : RowLists → ℕ → AttrEnds → Option TableFault
cell_fault rows attribute ends =
    first_in (λ position cell. fault_unless (is_cell_of ends.kind cell) (Kind (record { 0 = attribute }) position)) 0 (list_at rows.cells attribute)

-- the first attribute with such a cell
abbrev pub kind_fault : Signature → RowLists → Option TableFault
kind_fault C rows = first_in (cell_fault rows) 0 C.attributes

-- the first name at which the equation fails
abbrev pub failure_of : Instance → ℕ → equations.Equation → Option TableFault
failure_of X place equation =
    first_in (λ position name. fault_unless (agrees_at X equation name) (Equation place name)) 0 (X.names equation.object.0)

-- the first equation that fails at a name
abbrev pub equation_fault : Signature → RowLists → Option TableFault
equation_fault C rows = first_in (failure_of (instance_of C rows)) 0 C.equations

-- why the lists are no instance: the first of its conditions that fails, at the least place
abbrev pub table_fault : Signature → RowLists → Option TableFault
table_fault C rows =
    or_else (fault_unless (has_shape C rows) Shape)
    (or_else (names_fault rows)
    (or_else (range_fault C rows)
    (or_else (kind_fault C rows)
    (equation_fault C rows))))

-- what a build of the lists answers; want of memory may come at any lists
abbrev pub BuildsTable : Signature → RowLists → Result Tabled TableFault → Type 0
BuildsTable C rows (Ok table) = (table ≡ record { signature = C; rows = rows }) × (table_fault C rows ≡ None)
BuildsTable C rows (Err OutOfMemory) = Unit {0}
BuildsTable C rows (Err Shape) = table_fault C rows ≡ Some Shape
BuildsTable C rows (Err (Names object)) = table_fault C rows ≡ Some (Names object)
BuildsTable C rows (Err (Range arrow position)) = table_fault C rows ≡ Some (Range arrow position)
BuildsTable C rows (Err (Kind attribute position)) = table_fault C rows ≡ Some (Kind attribute position)
BuildsTable C rows (Err (Equation equation name)) = table_fault C rows ≡ Some (Equation equation name)
