-- What is read as the lists of an instance is one, unless an equation fails, and it is of the size that is read.
use Rattle.std.proofs.Common.{◌≡◌, ◌∙◌, ℕ, zero, suc, ◌+◌, ◌<◌, ◌≤◌, Bool, true, false, if◌then◌else◌, nat_le, is_none, List, [], ◌∷◌, length, map, slice_get, slice_index, get_or, Option, Some, None, option_and_then, option_map, Result, Ok, Err, IfOk, refl, sym, subst, zero-add, arith}
use Rattle.std.specs.List.{list_all, range_with_len}
use Rattle.std.proofs.lemmas.Bool.{and_parts, eqb-true, leb-true}
use Rattle.std.proofs.lemmas.List.FromFn.{length-range_with_len}
use Rattle.std.proofs.lemmas.Option.{slice_get_within}
use Rattle.serde_json.specs.Data.{Data}
use Rattle.rw_schema.specs.declared.atom.Atom.{Atom}
use Rattle.rw_schema.specs.declared.atom.Kind.{Kind}
use Rattle.rw_schema.specs.declared.signature.AttrEnds.{AttrEnds}
use Rattle.rw_schema.specs.Atoms.{is_of_kind}
use Rattle.rw_schema.specs.First.{all_in, map_in}
use Rattle.rw_schema.specs.RowLists.{RowLists, list_at}
use Rattle.rw_schema.specs.Signature.{Signature}
use Rattle.rw_schema.proofs.Lists.{list_at_within, length_map_in, get_or_map_in}
use Rattle.rw_spec.proofs.Sequences.{all_in_at}
use Rattle.rw_spec.specs.Tabled.{Tabled}
use Rattle.rw_table.specs.TableFaults.{is_cell_of, table_fault, equation_fault}
use Rattle.rw_doc.specs.declared.end.ReadDocEnd.{ReadDocEnd}
use Rattle.rw_doc.specs.Chain.{and_then, all_some, some_or, checked}
use Rattle.rw_doc.specs.Gives.{Gives}
use Rattle.rw_doc.specs.Instances.{rows_of}
use Rattle.rw_doc.specs.Json.{is_null, atom_of}
use Rattle.rw_doc.specs.Limits.{most_parts}
use Rattle.rw_doc.specs.Pieces.{fault_in}
use Rattle.rw_doc.specs.declared.piece.Piece.{Piece}
use Rattle.rw_doc.proofs.Chains.{chain, checked_then}
use Rattle.rw_doc.proofs.Listed.{some_long, some_pass}
use Rattle.rw_doc.proofs.PartLists.{AreLists, only_equations_fail}
use Rattle.rw_docspan.specs.Instances as spec
use Rattle.rw_docspan.specs.Instances.{InstanceForm, IsOfSize}

-- the lengths that the signature asks for
pub record HasLengths (C : Signature) (form : InstanceForm) : Type 0 where
  pub parts : length form.parts ≡ C.objects
  pub rows : length form.rows ≡ length C.arrows
  pub cells : length form.cells ≡ length C.attributes
  pub row_lengths : all_in (spec.has_row_length form.parts form.rows) 0 C.arrows ≡ true
  pub cell_lengths : all_in (spec.has_cell_length form.parts form.cells) 0 C.attributes ≡ true

-- they are what the test of the lengths says
pub lengths_known : (C : Signature) (form : InstanceForm) → spec.has_lengths C form ≡ true → HasLengths C form
lengths_known C form long = grind arith

-- ---- cells

-- an atom that passes the test is of the kind
atom_of_kind : (kind : Kind) (atom : Atom) (test : Bool) (cell : Option Atom) → is_of_kind kind atom ≡ test
    → (if test then Some (Some atom) else None) ≡ Some cell → is_cell_of kind cell ≡ true
atom_of_kind kind atom true cell passes is = let one : Some atom ≡ cell = cc in subst (λ cell. is_cell_of kind cell ≡ true) one passes
atom_of_kind kind atom false cell passes is = let never : ⊥ = cc in absurd never

-- a blank, or an atom that passes the test
blank_or_atom : (kind : Kind) (blank : Bool) (atom : Option Atom) (cell : Option Atom)
    → (if blank then Some None else option_and_then (spec.cell_with kind) atom) ≡ Some cell → is_cell_of kind cell ≡ true
blank_or_atom kind true atom cell is = let one : None ≡ cell = cc in subst (λ cell. is_cell_of kind cell ≡ true) one refl
blank_or_atom kind false None cell is = let never : ⊥ = cc in absurd never
blank_or_atom kind false (Some atom) cell is = atom_of_kind kind atom (is_of_kind kind atom) cell refl is

-- a test that all pass
all_pass : {X : Type 0} (xs : List X) → list_all (λ x. true) xs ≡ true
all_pass [] = refl
all_pass (x ∷ xs) = all_pass xs

-- the cells that are read are of the kind
cells_of_kind : (kind : Kind) (values : List Data) (cells : List (Option Atom)) → all_some (spec.cell_of kind) values ≡ Some cells → list_all (is_cell_of kind) cells ≡ true
cells_of_kind kind values cells so =
    some_pass (is_cell_of kind) (spec.cell_of kind) (λ value. true) (λ value cell given is. blank_or_atom kind (is_null value) (atom_of value) cell is) values cells (all_pass values) so

-- where something is at each place, the list has it there
given_at : {A : Type 0} (options : List (Option A)) (ys : List A) (k : ℕ) → all_some (λ y. y) options ≡ Some ys → slice_get ys k ≡ get_or options k None
given_at [] ys k so = let none : [] ≡ ys = cc in subst (λ list. slice_get list k ≡ None) none refl
given_at (None ∷ options) ys k so = let never : ⊥ = cc in absurd never
given_at (Some y ∷ options) ys k so = behind (all_some (λ y. y) options) so k (λ rest place later. given_at options rest place later)
  where
    behind : (later : Option (List _)) → option_map (λ rest. y ∷ rest) later ≡ Some ys → (k : ℕ)
        → ((rest : List _) (place : ℕ) → later ≡ Some rest → slice_get rest place ≡ get_or options place None) → slice_get ys k ≡ get_or (Some y ∷ options) k None
    behind None is k more = let never : ⊥ = cc in absurd never
    behind (Some rest) is zero more = let one : y ∷ rest ≡ ys = cc in subst (λ list. slice_get list 0 ≡ Some y) one refl
    behind (Some rest) is (suc k) more = let one : y ∷ rest ≡ ys = cc in subst (λ list. slice_get list (suc k) ≡ get_or options k None) one (more rest k refl)

-- there is one list for each attribute
cell_lists_long : (C : Signature) (lists : List (List Data)) (cells : List (List (Option Atom))) → spec.cells_of C lists ≡ Some cells → length cells ≡ length C.attributes
cell_lists_long C lists cells so =
    let read = map_in (spec.cells_at lists) 0 C.attributes in
    some_long (λ list. list) read cells so ∙ length_map_in (spec.cells_at lists) 0 C.attributes

-- the cells of an attribute are what is read of its values
pub cells_at : (C : Signature) (lists : List (List Data)) (cells : List (List (Option Atom))) → spec.cells_of C lists ≡ Some cells
    → (c : ℕ) (ends : AttrEnds) → slice_get C.attributes c ≡ Some ends → all_some (spec.cell_of ends.kind) (list_at lists c) ≡ Some (list_at cells c)
cells_at C lists cells so c ends there =
    let f = spec.cells_at lists in
    let long : length cells ≡ length C.attributes = cell_lists_long C lists cells so in
    let within : c < length C.attributes = slice_get_within C.attributes c ends there in
    let here : get_or (map_in f 0 C.attributes) c None ≡ f (0 + c) ends = get_or_map_in f 0 C.attributes c ends None there in
    let given : slice_get cells c ≡ get_or (map_in f 0 C.attributes) c None = given_at (map_in f 0 C.attributes) cells c so in
    sym (rw zero-add at here) ∙ sym given ∙ list_at_within cells c (omega arith)

-- ---- the lists

lists_read : (C : Signature) (form : InstanceForm) (cells : List (List (Option Atom))) → HasLengths C form
    → all_in (spec.has_images form.parts form.rows) 0 C.arrows ≡ true → spec.cells_of C form.cells ≡ Some cells → AreLists C form.parts form.rows cells
lists_read C form cells long images so = record {
  all_objects = long.parts;
  all_arrows = long.rows;
  all_attributes = cell_lists_long C form.cells cells so;
  row_lengths = λ a ends there.
      eqb-true (length (list_at form.rows a)) (slice_index form.parts ends.source.0)
      (rw zero-add at (all_in_at (spec.has_row_length form.parts form.rows) 0 C.arrows a ends long.row_lengths there));
  images = λ a ends there. rw zero-add at (all_in_at (spec.has_images form.parts form.rows) 0 C.arrows a ends images there);
  cell_lengths = λ c ends there.
      some_long (spec.cell_of ends.kind) (list_at form.cells c) (list_at cells c) (cells_at C form.cells cells so c ends there)
      ∙ eqb-true (length (list_at form.cells c)) (slice_index form.parts ends.object.0)
      (rw zero-add at (all_in_at (spec.has_cell_length form.parts form.cells) 0 C.attributes c ends long.cell_lengths there));
  kinds = λ c ends there. cells_of_kind ends.kind (list_at form.cells c) (list_at cells c) (cells_at C form.cells cells so c ends there);
}

-- what is read has no fault but that of an equation
lists_sound : (C : Signature) (form : InstanceForm) (cells : List (List (Option Atom))) → spec.has_lengths C form ≡ true
    → all_in (spec.has_images form.parts form.rows) 0 C.arrows ≡ true → spec.cells_of C form.cells ≡ Some cells
    → table_fault C (rows_of form.parts form.rows cells) ≡ equation_fault C (rows_of form.parts form.rows cells)
lists_sound C form cells long images so = only_equations_fail C form.parts form.rows cells (lists_read C form cells (lengths_known C form long) images so)

-- what the lists of a form give, where its lengths and images are right
pub form_read : (C : Signature) (piece : Piece) (form : InstanceForm) (cells : List (List (Option Atom))) (rows : RowLists) (result : Result Tabled ReadDocEnd)
    → spec.has_lengths C form ≡ true → all_in (spec.has_images form.parts form.rows) 0 C.arrows ≡ true → spec.cells_of C form.cells ≡ Some cells
    → rows ≡ rows_of form.parts form.rows cells
    → Gives (λ table. table) result (checked (fault_in piece 10) (is_none (table_fault C rows)) (Ok (record { signature = C; rows = rows })))
    → Gives (λ table. table) result (and_then (some_or (fault_in piece 9) (spec.cells_of C form.cells)) (λ cells. spec.where_equal C piece form.parts form.rows cells))
form_read C piece form cells rows result long images so are built =
    rw (so, ← lists_sound C form cells long images so)
    (subst (λ (rows : RowLists). Gives (λ table. table) result (checked (fault_in piece 10) (is_none (table_fault C rows)) (Ok (record { signature = C; rows = rows })))) are built)

-- ---- the size

-- where no number of parts is too great, no object has too many names
few_names : (parts : List ℕ) (object : ℕ) → spec.are_few parts ≡ true → length (list_at (map (range_with_len 0) parts) object) ≤ most_parts
few_names [] object few = omega arith
few_names (count ∷ parts) zero few =
    rw (length-range_with_len 0 count) (leb-true count most_parts (and_parts (nat_le count most_parts) (spec.are_few parts) few).0)
few_names (count ∷ parts) (suc object) few = few_names parts object (and_parts (nat_le count most_parts) (spec.are_few parts) few).1

-- an instance over the signature, of the size that is read
record IsRead (C : Signature) (table : Tabled) : Type 0 where
  over : table.signature ≡ C
  size : IsOfSize C table

-- so is the one that is read
instance_read : (C : Signature) (piece : Piece) (value : Data) (table : Tabled) → spec.read_instance C piece value ≡ Ok table → IsRead C table
instance_read C piece value =
    let P = IsRead C in
    chain P (some_or (fault_in piece 2) (spec.form_of value)) _
    (λ form written. checked_then P (fault_in piece 2) (spec.has_lengths C form) _
    (λ long. checked_then P (fault_in piece 4) (spec.is_in_limits form) _
    (λ limits. checked_then P (fault_in piece 8) (all_in (spec.has_images form.parts form.rows) 0 C.arrows) _
    (λ images. chain P (some_or (fault_in piece 9) (spec.cells_of C form.cells)) _
    (λ cells so. checked_then P (fault_in piece 10) (is_none (equation_fault C (rows_of form.parts form.rows cells))) (Ok (record { signature = C; rows = rows_of form.parts form.rows cells }))
    (λ equal table is.
    let read : Tabled = record { signature = C; rows = rows_of form.parts form.rows cells } in
    let one : read ≡ table = cc in
    let few : spec.are_few form.parts ≡ true = (and_parts (spec.are_few form.parts) (list_all spec.are_short form.cells) limits).0 in
    subst P one (record { over = refl; size = λ object within. few_names form.parts object few })))))))

-- what a reading answers is over the signature
pub answer_over : (C : Signature) (piece : Piece) (value : Data) (result : Result Tabled ReadDocEnd)
    → Gives (λ table. table) result (spec.read_instance C piece value) → IfOk result (λ table. table.signature ≡ C)
answer_over C piece value (Ok table) gives = (instance_read C piece value table gives).over
answer_over C piece value (Err end) gives = tt

-- and of the size
pub answer_sized : (C : Signature) (piece : Piece) (value : Data) (result : Result Tabled ReadDocEnd)
    → Gives (λ table. table) result (spec.read_instance C piece value) → IfOk result (IsOfSize C)
answer_sized C piece value (Ok table) gives = (instance_read C piece value table gives).size
answer_sized C piece value (Err end) gives = tt
