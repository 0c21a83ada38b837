-- The instance that a JSON value is, or its first fault. The sections are read in the order in which they stand here, and the
-- entries of each in their order; within an entry the least code comes first.
use Rattle.std.specs.Prelude.{◌==◌, ℕ, Bool, false, nat_le, nat_lt, length, map, codes, replicate, List, [], ◌∷◌, Option, Some, None, Result, Ok, if◌then◌else◌, slice_get, slice_index}
use Rattle.std.specs.List.{range_with_len}
use Rattle.serde_json.specs.Data.{Data}
use Rattle.serde_json.specs.Find.{get}
use Rattle.rw_schema.specs.declared.atom.Atom.{Atom}
use Rattle.rw_schema.specs.declared.parts.Equation as parts
use Rattle.rw_schema.specs.declared.section.Section.TheVariants.{Instance, Parts, Rows, Cells, Equation}
use Rattle.rw_schema.specs.declared.signature.AttrEnds.{AttrEnds}
use Rattle.rw_schema.specs.Atoms.{is_of_kind}
use Rattle.rw_schema.specs.First.{first_in, fault_unless}
use Rattle.rw_schema.specs.RowLists.{RowLists}
use Rattle.rw_schema.specs.Signature.{Signature, source_of, holder_of}
use Rattle.rw_spec.specs.Ends.{target_of}
use Rattle.rw_spec.specs.Instance as instances
use Rattle.rw_spec.specs.Tabled.{Tabled}
use Rattle.rw_doc.specs.declared.fault.DocFault.{DocFault}
use Rattle.rw_doc.specs.Chain.{and_then, each_in, some_or, checked, unfaulted}
use Rattle.rw_doc.specs.Faults.{fault_at, fault_of}
use Rattle.rw_doc.specs.Limits.{most_parts}
use Rattle.rw_doc.specs.Json.{as_list, as_count, has_only, is_null, atom_of, is_short}

-- as many items as this, or the fault
abbrev pub with_length : DocFault → ℕ → Option (List Data) → Result (List Data) DocFault
with_length fault count items = and_then (some_or fault items) (λ items. checked fault (length items == count) (Ok items))

-- ---- parts

-- the number of an object's parts: codes 2 and 4
abbrev pub read_part_count : ℕ → Data → Result ℕ DocFault
read_part_count object value = and_then (some_or (fault_at 2 Parts object 0) (as_count value)) (λ count.
    checked (fault_at 4 Parts object 0) (nat_le count most_parts) (Ok count))

-- one count for each object
abbrev pub read_parts : Signature → Data → Result (List ℕ) DocFault
read_parts C value = and_then (with_length (fault_of 2 Parts) C.objects (as_list value)) (each_in read_part_count 0)

-- ---- rows

-- an image, a part of the arrow's target: codes 2 and 8
abbrev pub read_image : ℕ → ℕ → ℕ → Data → Result ℕ DocFault
read_image targets arrow position value = and_then (some_or (fault_at 2 Rows arrow position) (as_count value)) (λ image.
    checked (fault_at 8 Rows arrow position) (nat_lt image targets) (Ok image))

-- the list of an arrow, with one image for each part of its source: code 2; then the images
abbrev pub read_row : Signature → List ℕ → ℕ → Data → Result (List ℕ) DocFault
read_row C parts arrow value = and_then (with_length (fault_at 2 Rows arrow 0) (slice_index parts (source_of C arrow)) (as_list value))
    (each_in (read_image (slice_index parts (target_of C arrow)) arrow) 0)

-- one list for each arrow
abbrev pub read_rows : Signature → List ℕ → Data → Result (List (List ℕ)) DocFault
read_rows C parts value = and_then (with_length (fault_of 2 Rows) (length C.arrows) (as_list value)) (each_in (read_row C parts) 0)

-- ---- cells

-- the atom is of the attribute's kind
abbrev pub is_of_attribute : Option AttrEnds → Atom → Bool
is_of_attribute None atom = false
is_of_attribute (Some ends) atom = is_of_kind ends.kind atom

-- an atom of the attribute's kind, or nothing where a blank may stand: codes 4 and 9
abbrev pub read_cell : Signature → Bool → ℕ → ℕ → Data → Result (Option Atom) DocFault
read_cell C blanks attribute position value =
    if is_null value then checked (fault_at 9 Cells attribute position) blanks (Ok None)
    else and_then (some_or (fault_at 9 Cells attribute position) (atom_of value)) (λ atom.
    checked (fault_at 4 Cells attribute position) (is_short atom)
    (checked (fault_at 9 Cells attribute position) (is_of_attribute (slice_get C.attributes attribute) atom)
    (Ok (Some atom))))

-- the list of an attribute, with one cell for each part of its object: code 2; then the cells
abbrev pub read_cell_list : Signature → Bool → List ℕ → ℕ → Data → Result (List (Option Atom)) DocFault
read_cell_list C blanks parts attribute value =
    and_then (with_length (fault_at 2 Cells attribute 0) (slice_index parts (holder_of C attribute)) (as_list value)) (each_in (read_cell C blanks attribute) 0)

-- where no cells are written there is no list of them
abbrev pub lists_or_none : Option Data → Option (List Data)
lists_or_none None = Some []
lists_or_none (Some value) = as_list value

-- one list for each attribute
abbrev pub read_cells : Signature → Bool → List ℕ → Option Data → Result (List (List (Option Atom))) DocFault
read_cells C blanks parts value =
    and_then (with_length (fault_of 2 Cells) (length C.attributes) (lists_or_none value)) (each_in (read_cell_list C blanks parts) 0)

-- ---- equations

-- the first part at which the equation fails: code 10
abbrev pub failure_at : instances.Instance → ℕ → parts.Equation → Option DocFault
failure_at X place equation =
    first_in (λ position part. fault_unless (instances.agrees_at X equation part) (fault_at 10 Equation place part)) 0 (X.names equation.object.0)

-- the first equation that fails at a part
abbrev pub first_failure : Signature → instances.Instance → Option DocFault
first_failure C X = first_in (failure_at X) 0 C.equations

-- ---- the whole

-- the lists of an instance whose parts are named from 0 in each object
abbrev pub rows_of : List ℕ → List (List ℕ) → List (List (Option Atom)) → RowLists
rows_of parts arrows cells = record { names = map (range_with_len 0) parts; arrows = arrows; cells = cells; next = parts }

-- the instance with the lists, where each equation holds
abbrev pub with_equations : Signature → RowLists → Result Tabled DocFault
with_equations C rows = unfaulted (first_failure C (instances.instance_of C rows)) (record { signature = C; rows = rows })

abbrev pub instance_keys : List (List ℕ)
instance_keys = codes "cells" ∷ codes "parts" ∷ codes "rows" ∷ []

-- the object's own keys: code 2; then its sections. It is said whether blanks may stand
abbrev pub read_instance : Signature → Bool → Data → Result Tabled DocFault
read_instance C blanks value = checked (fault_of 2 Instance) (has_only instance_keys value)
    (and_then (some_or (fault_of 2 Instance) (get (codes "parts") value)) (λ parts_value.
    and_then (some_or (fault_of 2 Instance) (get (codes "rows") value)) (λ rows_value.
    and_then (read_parts C parts_value) (λ parts.
    and_then (read_rows C parts rows_value) (λ arrows.
    and_then (read_cells C blanks parts (get (codes "cells") value)) (λ cells.
    with_equations C (rows_of parts arrows cells)))))))

-- the instance without a part
abbrev pub empty_instance : Signature → Tabled
empty_instance C = record {
  signature = C;
  rows = rows_of (replicate C.objects 0) (replicate (length C.arrows) []) (replicate (length C.attributes) []);
}
