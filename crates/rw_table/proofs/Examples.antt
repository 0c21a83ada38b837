-- Examples: graphs, as tables over the schema with objects V and E and arrows src and tgt from E to V; symmetric graphs, with
-- an arrow inv from E to E too; and weighted points, with an integer attribute.
use Rattle.std.proofs.Common.{◌≡◌, ℕ, pos, List, [], ◌∷◌, Option, Some, None, refl}
use Rattle.rw_schema.specs.declared.atom.Atom.{Atom}
use Rattle.rw_schema.specs.declared.atom.Atom.TheVariants.{Int, Text}
use Rattle.rw_schema.specs.declared.atom.Kind.TheVariants as kinds
use Rattle.rw_schema.specs.declared.signature.ArrowEnds.{ArrowEnds}
use Rattle.rw_schema.specs.RowLists.{RowLists}
use Rattle.rw_schema.specs.Signature.{Signature}
use Rattle.rw_spec.specs.Tabled.{Tabled, value_at, cell_at}
use Rattle.rw_table.specs.TableFaults.{table_fault}
use Rattle.rw_table.specs.declared.fault.TableFault.TheVariants.{Shape, Names, Range, Kind, Equation}

abbrev edge_to_vertex : ArrowEnds
edge_to_vertex = record { source = record { 0 = 1 }; target = record { 0 = 0 } }

abbrev graph : Signature
graph = record { objects = 2; arrows = edge_to_vertex ∷ edge_to_vertex ∷ []; attributes = []; equations = [] }

abbrev rows_of : List ℕ → List ℕ → List ℕ → List ℕ → List ℕ → RowLists
rows_of vertices edges sources targets next = record {
  names = vertices ∷ edges ∷ [];
  arrows = sources ∷ targets ∷ [];
  cells = [];
  next = next;
}

-- the path of two edges over three vertices
abbrev path : RowLists
path = rows_of (0 ∷ 1 ∷ 2 ∷ []) (0 ∷ 1 ∷ []) (0 ∷ 1 ∷ []) (1 ∷ 2 ∷ []) (3 ∷ 2 ∷ [])

abbrev path_table : Tabled
path_table = record { signature = graph; rows = path }

-- a path is a graph
path_has_no_fault : table_fault graph path ≡ None
path_has_no_fault = refl

-- names need not be the numbers from 0 on
gaps_have_no_fault : table_fault graph (rows_of (2 ∷ 5 ∷ []) (7 ∷ []) (5 ∷ []) (2 ∷ []) (6 ∷ 9 ∷ [])) ≡ None
gaps_have_no_fault = refl

-- the second edge leads to the third vertex
second_edge_ends : value_at path_table 1 1 ≡ Some 2
second_edge_ends = refl

-- there is no third edge
third_edge_ends : value_at path_table 1 2 ≡ None
third_edge_ends = refl

-- a row has an image for each name of its source
short_row : table_fault graph (rows_of (0 ∷ 1 ∷ 2 ∷ []) (0 ∷ 1 ∷ []) (0 ∷ 1 ∷ []) (1 ∷ []) (3 ∷ 2 ∷ [])) ≡ Some Shape
short_row = refl

-- the shape is looked at before the names
short_row_first : table_fault graph (rows_of (1 ∷ 0 ∷ []) (0 ∷ []) (5 ∷ []) [] (3 ∷ 2 ∷ [])) ≡ Some Shape
short_row_first = refl

-- there is one next name for each object
no_next_name : table_fault graph (rows_of (0 ∷ []) [] [] [] (1 ∷ [])) ≡ Some Shape
no_next_name = refl

-- names ascend
descending_names : table_fault graph (rows_of (1 ∷ 0 ∷ []) (0 ∷ []) (1 ∷ []) (0 ∷ []) (2 ∷ 1 ∷ [])) ≡ Some (Names (record { 0 = 0 }))
descending_names = refl

-- a name is there once, and names are looked at before images
repeated_name : table_fault graph (rows_of (0 ∷ []) (4 ∷ 4 ∷ []) (0 ∷ 0 ∷ []) (0 ∷ 3 ∷ []) (1 ∷ 5 ∷ [])) ≡ Some (Names (record { 0 = 1 }))
repeated_name = refl

-- names are below the next name
name_at_next : table_fault graph (rows_of (0 ∷ 1 ∷ []) [] [] [] (1 ∷ 0 ∷ [])) ≡ Some (Names (record { 0 = 0 }))
name_at_next = refl

-- the first image that is no name of the arrow's target
image_outside : table_fault graph (rows_of (0 ∷ 1 ∷ 2 ∷ []) (0 ∷ 1 ∷ []) (0 ∷ 1 ∷ []) (1 ∷ 5 ∷ []) (3 ∷ 2 ∷ [])) ≡ Some (Range (record { 0 = 1 }) 1)
image_outside = refl

-- an earlier arrow comes before a later one
two_images_outside : table_fault graph (rows_of (0 ∷ 1 ∷ 2 ∷ []) (0 ∷ 1 ∷ []) (0 ∷ 3 ∷ []) (4 ∷ 5 ∷ []) (3 ∷ 2 ∷ [])) ≡ Some (Range (record { 0 = 0 }) 1)
two_images_outside = refl

-- the schema of an object with an integer attribute
abbrev weights : Signature
weights = record { objects = 1; arrows = []; attributes = record { object = record { 0 = 0 }; kind = kinds.Int } ∷ []; equations = [] }

-- three points with these cells
abbrev weighted : List (Option Atom) → RowLists
weighted cells = record { names = (0 ∷ 1 ∷ 2 ∷ []) ∷ []; arrows = []; cells = cells ∷ []; next = 3 ∷ [] }

abbrev seven : Atom
seven = Int (pos 7)

abbrev weighted_table : Tabled
weighted_table = record { signature = weights; rows = weighted (Some seven ∷ None ∷ Some seven ∷ []) }

-- cells may be blank
blank_has_no_fault : table_fault weights weighted_table.rows ≡ None
blank_has_no_fault = refl

-- the cell of the second point is blank
blank_cell : cell_at weighted_table 0 1 ≡ Some None
blank_cell = refl

-- the third point has the atom 7
cell_with_atom : cell_at weighted_table 0 2 ≡ Some (Some seven)
cell_with_atom = refl

-- there is no fourth point
no_cell : cell_at weighted_table 0 3 ≡ None
no_cell = refl

-- an attribute has a cell for each name of its object
short_cells : table_fault weights (weighted (Some seven ∷ None ∷ [])) ≡ Some Shape
short_cells = refl

-- there is a list of cells for each attribute
no_list_of_cells : table_fault weights (record { names = (0 ∷ []) ∷ []; arrows = []; cells = []; next = 1 ∷ [] }) ≡ Some Shape
no_list_of_cells = refl

-- the first atom that is not of the attribute's kind
text_for_integer : table_fault weights (weighted (Some seven ∷ Some (Text []) ∷ Some (Text []) ∷ [])) ≡ Some (Kind (record { 0 = 0 }) 1)
text_for_integer = refl

-- the schema of symmetric graphs: inv;inv is the identity, and inv;src is tgt
abbrev symmetric : Signature
symmetric = record {
  objects = 2;
  arrows = edge_to_vertex ∷ edge_to_vertex ∷ record { source = record { 0 = 1 }; target = record { 0 = 1 } } ∷ [];
  attributes = [];
  equations = record { object = record { 0 = 1 }; left = record { 0 = 2 } ∷ record { 0 = 2 } ∷ []; right = [] }
      ∷ record { object = record { 0 = 1 }; left = record { 0 = 2 } ∷ record { 0 = 0 } ∷ []; right = record { 0 = 1 } ∷ [] } ∷ [];
}

-- two vertices and an edge each way, with these inverses
abbrev both_ways : List ℕ → RowLists
both_ways inverses = record {
  names = (0 ∷ 1 ∷ []) ∷ (0 ∷ 1 ∷ []) ∷ [];
  arrows = (0 ∷ 1 ∷ []) ∷ (1 ∷ 0 ∷ []) ∷ inverses ∷ [];
  cells = [];
  next = 2 ∷ 2 ∷ [];
}

-- each edge is the other's inverse
pair_has_no_fault : table_fault symmetric (both_ways (1 ∷ 0 ∷ [])) ≡ None
pair_has_no_fault = refl

-- an edge that is its own inverse begins where it ends
own_inverses : table_fault symmetric (both_ways (0 ∷ 1 ∷ [])) ≡ Some (Equation 1 0)
own_inverses = refl

-- the inverse's inverse is the edge
one_inverse : table_fault symmetric (both_ways (1 ∷ 1 ∷ [])) ≡ Some (Equation 0 0)
one_inverse = refl

-- an equation is looked at at each name
later_name : table_fault symmetric (both_ways (0 ∷ 0 ∷ [])) ≡ Some (Equation 0 1)
later_name = refl

-- images are looked at before equations
image_before_equation : table_fault symmetric (both_ways (0 ∷ 2 ∷ [])) ≡ Some (Range (record { 0 = 2 }) 1)
image_before_equation = refl
