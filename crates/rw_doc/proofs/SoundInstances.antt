-- What is read as the lists of an instance is one, unless an equation fails.
use Rattle.std.proofs.Common.{◌≡◌, ◌∙◌, ◌<◌, ◌≤◌, ◌==◌, ℕ, Bool, true, false, nat_le, nat_lt, if◌then◌else◌, Option, Some, None, Result, Ok, List, length, slice_get, slice_index, refl, ap, subst, arith, zero-add}
use Rattle.std.specs.List.{All, list_all}
use Rattle.std.proofs.lemmas.Bool.{leb-true, eqb-true}
use Rattle.std.proofs.lemmas.Option.{slice_get_within}
use Rattle.serde_json.specs.Data.{Data}
use Rattle.rw_schema.specs.declared.atom.Atom.{Atom}
use Rattle.rw_schema.specs.declared.section.Section.TheVariants.{Parts, Rows, Cells}
use Rattle.rw_schema.specs.declared.signature.ArrowEnds.{ArrowEnds}
use Rattle.rw_schema.specs.declared.signature.AttrEnds.{AttrEnds}
use Rattle.rw_schema.specs.RowLists.{list_at}
use Rattle.rw_schema.specs.Signature.{Signature, source_of, holder_of}
use Rattle.rw_schema.proofs.Lists.{list_at_within}
use Rattle.rw_spec.specs.Ends.{target_of}
use Rattle.rw_spec.proofs.Signatures.{source_is, holder_is, target_is}
use Rattle.rw_table.specs.TableFaults.{is_cell_of, table_fault, equation_fault}
use Rattle.rw_doc.specs.declared.fault.DocFault.{DocFault}
use Rattle.rw_doc.specs.Chain.{each_in, some_or, checked}
use Rattle.rw_doc.specs.Faults.{fault_at, fault_of}
use Rattle.rw_doc.specs.Instances as spec
use Rattle.rw_doc.specs.Limits.{most_parts}
use Rattle.rw_doc.specs.Json.{as_list, as_count, is_null, atom_of, is_short}
use Rattle.rw_doc.proofs.Chains.{chain, checked_then, each, each_passes, each_long, each_at}
use Rattle.rw_doc.proofs.PartLists.{AreLists, only_equations_fail}

-- as many items as are wanted
long_items : (fault : DocFault) (count : ℕ) (value : Option (List Data)) (items : List Data)
    → spec.with_length fault count value ≡ Ok items → length items ≡ count
long_items fault count value =
    chain (λ items. length items ≡ count) (some_or fault value) _
    (λ items there. checked_then (λ items. length items ≡ count) fault (length items == count) (Ok items)
    (λ long same is. let one : items ≡ same = cc in subst (λ items. length items ≡ count) one (eqb-true (length items) count long)))

-- ---- parts

-- the number of an object's parts is within its limit
few_parts : (object : ℕ) (value : Data) (count : ℕ) → spec.read_part_count object value ≡ Ok count → count ≤ most_parts
few_parts object value =
    chain (λ count. count ≤ most_parts) (some_or (fault_at 2 Parts object 0) (as_count value)) _
    (λ count there. checked_then (λ count. count ≤ most_parts) (fault_at 4 Parts object 0) (nat_le count most_parts) (Ok count)
    (λ few same is. let one : count ≡ same = cc in subst (λ count. count ≤ most_parts) one (leb-true count most_parts few)))

-- there is one number for each object, within its limit
pub parts_read : (C : Signature) (value : Data) (parts : List ℕ) → spec.read_parts C value ≡ Ok parts
    → (length parts ≡ C.objects) × All (λ count. count ≤ most_parts) parts
parts_read C value =
    chain (λ parts. (length parts ≡ C.objects) × All (λ count. count ≤ most_parts) parts) (spec.with_length (fault_of 2 Parts) C.objects (as_list value)) (each_in spec.read_part_count 0)
    (λ items long parts is. (
      each_long spec.read_part_count 0 items parts is ∙ long_items (fault_of 2 Parts) C.objects (as_list value) items long,
      each (λ count. count ≤ most_parts) spec.read_part_count few_parts 0 items parts is,
    ))

-- ---- rows

-- an image is a part of the target
image_below : (targets arrow position : ℕ) (value : Data) (image : ℕ) → spec.read_image targets arrow position value ≡ Ok image → nat_lt image targets ≡ true
image_below targets arrow position value =
    chain (λ image. nat_lt image targets ≡ true) (some_or (fault_at 2 Rows arrow position) (as_count value)) _
    (λ image there. checked_then (λ image. nat_lt image targets ≡ true) (fault_at 8 Rows arrow position) (nat_lt image targets) (Ok image)
    (λ below same is. let one : image ≡ same = cc in subst (λ image. nat_lt image targets ≡ true) one below))

-- one image for each part of the arrow's source, each a part of its target
record IsRow (C : Signature) (parts : List ℕ) (a : ℕ) (row : List ℕ) : Type 0 where
  long : length row ≡ slice_index parts (source_of C a)
  images : list_all (λ image. nat_lt image (slice_index parts (target_of C a))) row ≡ true

-- so is the row that is read
row_read : (C : Signature) (parts : List ℕ) (a : ℕ) (value : Data) (row : List ℕ) → spec.read_row C parts a value ≡ Ok row → IsRow C parts a row
row_read C parts a value =
    let count = slice_index parts (source_of C a) in
    let f = spec.read_image (slice_index parts (target_of C a)) a in
    chain (IsRow C parts a) (spec.with_length (fault_at 2 Rows a 0) count (as_list value)) (each_in f 0)
    (λ items long row is. record {
      long = each_long f 0 items row is ∙ long_items (fault_at 2 Rows a 0) count (as_list value) items long;
      images = each_passes (λ image. nat_lt image (slice_index parts (target_of C a))) f (image_below (slice_index parts (target_of C a)) a) 0 items row is;
    })

-- one row for each arrow
record AreRows (C : Signature) (parts : List ℕ) (arrows : List (List ℕ)) : Type 0 where
  long : length arrows ≡ length C.arrows
  rows : (a : ℕ) (row : List ℕ) → slice_get arrows a ≡ Some row → IsRow C parts a row

-- so are the rows that are read
rows_read : (C : Signature) (parts : List ℕ) (value : Data) (arrows : List (List ℕ)) → spec.read_rows C parts value ≡ Ok arrows → AreRows C parts arrows
rows_read C parts value =
    let f = spec.read_row C parts in
    chain (AreRows C parts) (spec.with_length (fault_of 2 Rows) (length C.arrows) (as_list value)) (each_in f 0)
    (λ items long arrows is. record {
      long = each_long f 0 items arrows is ∙ long_items (fault_of 2 Rows) (length C.arrows) (as_list value) items long;
      rows = λ a row there. rw zero-add at (each_at (IsRow C parts) f (row_read C parts) 0 items arrows is a row there);
    })

-- ---- cells

-- what holds of both holds of the one that is chosen
chosen : {A E : Type 0} (P : A → Type 0) (test : Bool) (first second : Result A E)
    → ((y : A) → first ≡ Ok y → P y) → ((y : A) → second ≡ Ok y → P y) → (y : A) → (if test then first else second) ≡ Ok y → P y
chosen P true first second one other y is = one y is
chosen P false first second one other y is = other y is

-- a cell that is read is blank, or of the attribute's kind
cell_read : (C : Signature) (blanks : Bool) (c : ℕ) (ends : AttrEnds) → slice_get C.attributes c ≡ Some ends
    → (position : ℕ) (value : Data) (cell : Option Atom) → spec.read_cell C blanks c position value ≡ Ok cell → is_cell_of ends.kind cell ≡ true
cell_read C blanks c ends there position value =
    let P = λ (cell : Option Atom). is_cell_of ends.kind cell ≡ true in
    let wrong = fault_at 9 Cells c position in
    chosen P (is_null value) (checked wrong blanks (Ok None)) _
    (checked_then P wrong blanks (Ok None) (λ allowed cell is. let one : None ≡ cell = cc in subst P one refl))
    (chain P (some_or wrong (atom_of value)) _
    (λ atom written. checked_then P (fault_at 4 Cells c position) (is_short atom) _
    (λ short. checked_then P wrong (spec.is_of_attribute (slice_get C.attributes c) atom) (Ok (Some atom))
    (λ kind cell is. let one : Some atom ≡ cell = cc in subst P one (rw there at kind)))))

-- one cell for each part of the attribute's object, each blank or of its kind
record IsCellList (C : Signature) (parts : List ℕ) (c : ℕ) (cells : List (Option Atom)) : Type 0 where
  long : length cells ≡ slice_index parts (holder_of C c)
  kinds : (ends : AttrEnds) → slice_get C.attributes c ≡ Some ends → list_all (is_cell_of ends.kind) cells ≡ true

-- so is the list that is read
cell_list_read : (C : Signature) (blanks : Bool) (parts : List ℕ) (c : ℕ) (value : Data) (cells : List (Option Atom))
    → spec.read_cell_list C blanks parts c value ≡ Ok cells → IsCellList C parts c cells
cell_list_read C blanks parts c value =
    let count = slice_index parts (holder_of C c) in
    let f = spec.read_cell C blanks c in
    chain (IsCellList C parts c) (spec.with_length (fault_at 2 Cells c 0) count (as_list value)) (each_in f 0)
    (λ items long cells is. record {
      long = each_long f 0 items cells is ∙ long_items (fault_at 2 Cells c 0) count (as_list value) items long;
      kinds = λ ends there. each_passes (is_cell_of ends.kind) f (cell_read C blanks c ends there) 0 items cells is;
    })

-- one list for each attribute
record AreCells (C : Signature) (parts : List ℕ) (cells : List (List (Option Atom))) : Type 0 where
  long : length cells ≡ length C.attributes
  lists : (c : ℕ) (list : List (Option Atom)) → slice_get cells c ≡ Some list → IsCellList C parts c list

-- so are the lists that are read
cells_read : (C : Signature) (blanks : Bool) (parts : List ℕ) (value : Option Data) (cells : List (List (Option Atom)))
    → spec.read_cells C blanks parts value ≡ Ok cells → AreCells C parts cells
cells_read C blanks parts value =
    let f = spec.read_cell_list C blanks parts in
    let items_value = spec.lists_or_none value in
    chain (AreCells C parts) (spec.with_length (fault_of 2 Cells) (length C.attributes) items_value) (each_in f 0)
    (λ items long cells is. record {
      long = each_long f 0 items cells is ∙ long_items (fault_of 2 Cells) (length C.attributes) items_value items long;
      lists = λ c list there. rw zero-add at (each_at (IsCellList C parts) f (cell_list_read C blanks parts) 0 items cells is c list there);
    })

-- ---- the whole

-- the row of an arrow
row_at : (C : Signature) (parts : List ℕ) (arrows : List (List ℕ)) → AreRows C parts arrows
    → (a : ℕ) (ends : ArrowEnds) → slice_get C.arrows a ≡ Some ends → IsRow C parts a (list_at arrows a)
row_at C parts arrows rows a ends there =
    let within : a < length C.arrows = slice_get_within C.arrows a ends there in
    let long = rows.long in
    rows.rows a (list_at arrows a) (list_at_within arrows a (omega arith))

-- the cells of an attribute
cells_at : (C : Signature) (parts : List ℕ) (cells : List (List (Option Atom))) → AreCells C parts cells
    → (c : ℕ) (ends : AttrEnds) → slice_get C.attributes c ≡ Some ends → IsCellList C parts c (list_at cells c)
cells_at C parts cells lists c ends there =
    let within : c < length C.attributes = slice_get_within C.attributes c ends there in
    let long = lists.long in
    lists.lists c (list_at cells c) (list_at_within cells c (omega arith))

-- what is read are lists of an instance
lists_read : (C : Signature) (parts : List ℕ) (arrows : List (List ℕ)) (cells : List (List (Option Atom)))
    → length parts ≡ C.objects → AreRows C parts arrows → AreCells C parts cells → AreLists C parts arrows cells
lists_read C parts arrows cells objects rows lists = record {
  all_objects = objects;
  all_arrows = rows.long;
  all_attributes = lists.long;
  row_lengths = λ a ends there. (row_at C parts arrows rows a ends there).long ∙ ap (slice_index parts) (source_is C a ends there);
  images = λ a ends there. rw (target_is C a ends there) at (row_at C parts arrows rows a ends there).images;
  cell_lengths = λ c ends there. (cells_at C parts cells lists c ends there).long ∙ ap (slice_index parts) (holder_is C c ends there);
  kinds = λ c ends there. (cells_at C parts cells lists c ends there).kinds ends there;
}

-- what is read has no fault but that of an equation
pub lists_sound : (C : Signature) (blanks : Bool) (parts_value rows_value : Data) (cells_value : Option Data)
    (parts : List ℕ) (arrows : List (List ℕ)) (cells : List (List (Option Atom)))
    → spec.read_parts C parts_value ≡ Ok parts → spec.read_rows C parts rows_value ≡ Ok arrows → spec.read_cells C blanks parts cells_value ≡ Ok cells
    → table_fault C (spec.rows_of parts arrows cells) ≡ equation_fault C (spec.rows_of parts arrows cells)
lists_sound C blanks parts_value rows_value cells_value parts arrows cells parts_are arrows_are cells_are =
    only_equations_fail C parts arrows cells (lists_read C parts arrows cells (parts_read C parts_value parts parts_are).0
    (rows_read C parts rows_value arrows arrows_are) (cells_read C blanks parts cells_value cells cells_are))
