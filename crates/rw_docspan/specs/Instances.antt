-- The instance that one piece of a span or a cospan is, or the least code of what is wrong in the piece.
use Rattle.std.specs.Prelude.{◌<◌, ◌≤◌, ◌==◌, ℕ, Bool, true, ◌&&◌, is_none, nat_le, nat_lt, length, codes, List, [], Option, Some, None, option_and_then, option_map, Result, Ok, if◌then◌else◌, slice_index}
use Rattle.std.specs.List.{list_all}
use Rattle.serde_json.specs.Data.{Data}
use Rattle.serde_json.specs.Find.{get}
use Rattle.rw_schema.specs.declared.atom.Atom.{Atom}
use Rattle.rw_schema.specs.declared.atom.Kind.{Kind}
use Rattle.rw_schema.specs.declared.signature.ArrowEnds.{ArrowEnds}
use Rattle.rw_schema.specs.declared.signature.AttrEnds.{AttrEnds}
use Rattle.rw_schema.specs.Atoms.{is_of_kind}
use Rattle.rw_schema.specs.First.{all_in, map_in}
use Rattle.rw_schema.specs.RowLists.{list_at}
use Rattle.rw_schema.specs.Signature.{Signature}
use Rattle.rw_spec.specs.Tabled.{Tabled}
use Rattle.rw_table.specs.TableFaults.{equation_fault}
use Rattle.rw_doc.specs.declared.fault.DocFault.{DocFault}
use Rattle.rw_doc.specs.Chain.{and_then, all_some, some_or, checked}
use Rattle.rw_doc.specs.Instances.{instance_keys, rows_of}
use Rattle.rw_doc.specs.Json.{as_list, has_only, is_null, atom_of, is_short}
use Rattle.rw_doc.specs.Limits.{most_parts}
use Rattle.rw_doc.specs.declared.piece.Piece.{Piece}
use Rattle.rw_doc.specs.Numbers.{as_numbers, as_number_lists}
use Rattle.rw_doc.specs.Pieces.{fault_in}

-- ---- what is written: code 2

-- the numbers of parts, the images, and the values of the cells
pub record InstanceForm : Type 0 where
  pub parts : List ℕ
  pub rows : List (List ℕ)
  pub cells : List (List Data)

-- the lists of values; where none are written there is no list
abbrev pub values_or_none : Option Data → Option (List (List Data))
values_or_none None = Some []
values_or_none (Some value) = option_and_then (all_some as_list) (as_list value)

abbrev pub form_from : Data → Option InstanceForm
form_from value = option_and_then (λ parts. option_and_then (λ rows.
    option_map (λ cells. record { parts = parts; rows = rows; cells = cells }) (values_or_none (get (codes "cells") value)))
    (option_and_then as_number_lists (get (codes "rows") value))) (option_and_then as_numbers (get (codes "parts") value))

-- an object with the keys of an instance
abbrev pub form_of : Data → Option InstanceForm
form_of value = if has_only instance_keys value then form_from value else None

-- the row has one image for each part of the arrow's source
abbrev pub has_row_length : List ℕ → List (List ℕ) → ℕ → ArrowEnds → Bool
has_row_length parts rows arrow ends = length (list_at rows arrow) == slice_index parts ends.source.0

-- there is one value for each part of the attribute's object
abbrev pub has_cell_length : List ℕ → List (List Data) → ℕ → AttrEnds → Bool
has_cell_length parts cells attribute ends = length (list_at cells attribute) == slice_index parts ends.object.0

-- there is a number for each object, a row of the right length for each arrow, and a list of values of the right length for
-- each attribute
abbrev pub has_lengths : Signature → InstanceForm → Bool
has_lengths C form =
    length form.parts == C.objects && length form.rows == length C.arrows && length form.cells == length C.attributes
    && all_in (has_row_length form.parts form.rows) 0 C.arrows && all_in (has_cell_length form.parts form.cells) 0 C.attributes

-- ---- limits: code 4

-- no object has more than 1,000,000 parts
abbrev pub are_few : List ℕ → Bool
are_few parts = list_all (λ count. nat_le count most_parts) parts

-- the atom that a value is, if it is one, is no text that is too long
abbrev pub is_short_or_none : Option Atom → Bool
is_short_or_none None = true
is_short_or_none (Some atom) = is_short atom

-- no text is too long
abbrev pub are_short : List Data → Bool
are_short values = list_all (λ value. is_short_or_none (atom_of value)) values

abbrev pub is_in_limits : InstanceForm → Bool
is_in_limits form = are_few form.parts && list_all are_short form.cells

-- ---- images: code 8

-- each image is a part of the arrow's target
abbrev pub has_images : List ℕ → List (List ℕ) → ℕ → ArrowEnds → Bool
has_images parts rows arrow ends = list_all (λ image. nat_lt image (slice_index parts ends.target.0)) (list_at rows arrow)

-- ---- cells: code 9

-- the atom of the kind, as a cell
abbrev pub cell_with : Kind → Atom → Option (Option Atom)
cell_with kind atom = if is_of_kind kind atom then Some (Some atom) else None

-- a blank, or an atom of the kind
abbrev pub cell_of : Kind → Data → Option (Option Atom)
cell_of kind value = if is_null value then Some None else option_and_then (cell_with kind) (atom_of value)

-- the cells of an attribute
abbrev pub cells_at : List (List Data) → ℕ → AttrEnds → Option (List (Option Atom))
cells_at cells attribute ends = all_some (cell_of ends.kind) (list_at cells attribute)

-- the cells of each attribute
abbrev pub cells_of : Signature → List (List Data) → Option (List (List (Option Atom)))
cells_of C cells = all_some (λ list. list) (map_in (cells_at cells) 0 C.attributes)

-- ---- the whole: codes 2, 4, 8, 9 and 10

-- the equations hold of the instance with these lists
abbrev pub where_equal : Signature → Piece → List ℕ → List (List ℕ) → List (List (Option Atom)) → Result Tabled DocFault
where_equal C piece parts rows cells =
    checked (fault_in piece 10) (is_none (equation_fault C (rows_of parts rows cells))) (Ok (record { signature = C; rows = rows_of parts rows cells }))

abbrev pub read_instance : Signature → Piece → Data → Result Tabled DocFault
read_instance C piece value = and_then (some_or (fault_in piece 2) (form_of value)) (λ form.
    checked (fault_in piece 2) (has_lengths C form)
    (checked (fault_in piece 4) (is_in_limits form)
    (checked (fault_in piece 8) (all_in (has_images form.parts form.rows) 0 C.arrows)
    (and_then (some_or (fault_in piece 9) (cells_of C form.cells)) (λ cells. where_equal C piece form.parts form.rows cells)))))

-- no object of the instance has more than 1,000,000 parts
abbrev pub IsOfSize : Signature → Tabled → Type 0
IsOfSize C table = (object : ℕ) → object < C.objects → length (list_at table.rows.names object) ≤ most_parts
