-- A document that has a model has the same one in format 2.
use Rattle.std.proofs.Common.{◌≡◌, ◌∙◌, ℕ, Bool, true, false, ◌+◌, Ordering, Less, Equal, Greater, nat_cmp, codes, Option, Some, None, Result, Ok, Err, List, [], ◌∷◌, length, slice_index, refl, sym, ap, if◌then◌else◌}
use Rattle.std.specs.Cmp.Lexicographic.{slice_cmp}
use Rattle.std.specs.List.{list_all, list_any}
use Rattle.std.specs.Ordering.{match_ordering}
use Rattle.std.specs.Str.{bytes_eq}
use Rattle.std.proofs.lemmas.Bool.{and_parts}
use Rattle.serde_json.specs.Data.{Data, Members, no_members, member, number, object, put, unsigned}
use Rattle.serde_json.specs.Find.{get}
use Rattle.serde_json.proofs.Views.{get_member-put, get_member-put_other}
use Rattle.rw_schema.specs.declared.atom.Atom.{Atom}
use Rattle.rw_schema.specs.declared.section.Section.TheVariants.{Cells, Instance, Whole}
use Rattle.rw_schema.specs.Presentation.{Presentation, signature_of}
use Rattle.rw_schema.specs.Signature.{Signature, holder_of}
use Rattle.rw_spec.specs.Tabled.{Tabled}
use Rattle.rw_terms.specs.OpTables.{OpEntry}
use Rattle.rw_doc.specs.declared.fault.DocFault.{DocFault}
use Rattle.rw_doc.specs.Chain.{and_then, checked, each_in, some_or}
use Rattle.rw_doc.specs.Faults.{fault_at, fault_of}
use Rattle.rw_doc.specs.Instances.{instance_keys, read_cell, read_cell_list, read_cells, read_instance, read_parts, read_rows, rows_of, lists_or_none, with_equations, with_length}
use Rattle.rw_doc.specs.Json.{as_list, has_only, is_null, keys_of}
use Rattle.rw_doc.specs.Schemas.{read_schema}
use Rattle.rw_doc.proofs.Chains.{chain}
use Rattle.rw_document.specs.Documents.{allows_blanks, document_keys, instance_or_none, read_format, read_others, read_over, read_value, schema_in}
use Rattle.rw_document.specs.Formats.{FormatsAgree, in_format_2}
use Rattle.rw_document.specs.Models.{DocumentLists}

-- ---- readings that give what others give

-- what one chain gives, another gives whose readings give what those of the first give
chain_so : {A B E : Type 0} (first other : Result A E) (second later : A → Result B E) (y : B) → ((x : A) → first ≡ Ok x → other ≡ Ok x)
    → ((x : A) → second x ≡ Ok y → later x ≡ Ok y) → and_then first second ≡ Ok y → and_then other later ≡ Ok y
chain_so (Ok x) other second later y first_so second_so is = rw (first_so x refl) (second_so x is)
chain_so (Err fault) other second later y first_so second_so is = cc

-- likewise where the first reading is the same
then_so : {A B E : Type 0} (first : Result A E) (second later : A → Result B E) (y : B) → ((x : A) → second x ≡ Ok y → later x ≡ Ok y)
    → and_then first second ≡ Ok y → and_then first later ≡ Ok y
then_so first second later y so is = chain_so first first second later y (λ x given. given) so is

-- likewise behind a test
checked_so : {A E : Type 0} (fault : E) (test passed : Bool) (reading later : Result A E) (y : A) → (test ≡ true → passed ≡ true) → (reading ≡ Ok y → later ≡ Ok y)
    → checked fault test reading ≡ Ok y → checked fault passed later ≡ Ok y
checked_so fault true passed reading later y passes so is = rw (passes refl) (so is)
checked_so fault false passed reading later y passes so is = cc

-- likewise of each item
each_so : {X A E : Type 0} (f g : ℕ → X → Result A E) → ((i : ℕ) (x : X) (y : A) → f i x ≡ Ok y → g i x ≡ Ok y)
    → (i : ℕ) (xs : List X) (ys : List A) → each_in f i xs ≡ Ok ys → each_in g i xs ≡ Ok ys
each_so f g so i [] ys is = is
each_so f g so i (x ∷ xs) ys is =
    chain_so (f i x) (g i x) (λ y. and_then (each_in f (i + 1) xs) (λ rest. Ok (y ∷ rest))) (λ y. and_then (each_in g (i + 1) xs) (λ rest. Ok (y ∷ rest))) ys (so i x)
    (λ y. chain_so (each_in f (i + 1) xs) (each_in g (i + 1) xs) (λ rest. Ok (y ∷ rest)) (λ rest. Ok (y ∷ rest)) ys (each_so f g so (i + 1) xs) (λ rest given. given)) is

-- ---- an instance that is read is read the same where cells may be blank

-- a cell that is read where none may be blank is not null
not_null : {A E : Type 0} (null : Bool) (fault : E) (blank : A) (reading : Result A E) (y : A)
    → (if null then checked fault false (Ok blank) else reading) ≡ Ok y → (if null then checked fault true (Ok blank) else reading) ≡ Ok y
not_null true fault blank reading y is = cc
not_null false fault blank reading y is = is

-- cells
cell_so : (C : Signature) (blanks : Bool) (attribute position : ℕ) (value : Data) (cell : Option Atom)
    → read_cell C blanks attribute position value ≡ Ok cell → read_cell C true attribute position value ≡ Ok cell
cell_so C true attribute position value cell is = is
cell_so C false attribute position value cell is = not_null (is_null value) (fault_at 9 Cells attribute position) None _ cell is

-- lists of cells
list_so : (C : Signature) (blanks : Bool) (parts : List ℕ) (attribute : ℕ) (value : Data) (cells : List (Option Atom))
    → read_cell_list C blanks parts attribute value ≡ Ok cells → read_cell_list C true parts attribute value ≡ Ok cells
list_so C blanks parts attribute value cells =
    then_so (with_length (fault_at 2 Cells attribute 0) (slice_index parts (holder_of C attribute)) (as_list value)) (each_in (read_cell C blanks attribute) 0) (each_in (read_cell C true attribute) 0) cells
    (λ items. each_so (read_cell C blanks attribute) (read_cell C true attribute) (cell_so C blanks attribute) 0 items cells)

-- the cells of all attributes
cells_so : (C : Signature) (blanks : Bool) (parts : List ℕ) (value : Option Data) (lists : List (List (Option Atom)))
    → read_cells C blanks parts value ≡ Ok lists → read_cells C true parts value ≡ Ok lists
cells_so C blanks parts value lists =
    then_so (with_length (fault_of 2 Cells) (length C.attributes) (lists_or_none value)) (each_in (read_cell_list C blanks parts) 0) (each_in (read_cell_list C true parts) 0) lists
    (λ items. each_so (read_cell_list C blanks parts) (read_cell_list C true parts) (list_so C blanks parts) 0 items lists)

-- instances
instance_so : (C : Signature) (blanks : Bool) (value : Data) (table : Tabled) → read_instance C blanks value ≡ Ok table → read_instance C true value ≡ Ok table
instance_so C blanks value table =
    let cells : Option Data = get (codes "cells") value in
    let whole : List ℕ → List (List ℕ) → List (List (Option Atom)) → Result Tabled DocFault = λ parts arrows cells. with_equations C (rows_of parts arrows cells) in
    checked_so (fault_of 2 Instance) (has_only instance_keys value) (has_only instance_keys value) _ _ table (λ known. known)
    (then_so (some_or (fault_of 2 Instance) (get (codes "parts") value)) _ _ table
    (λ parts_value. then_so (some_or (fault_of 2 Instance) (get (codes "rows") value)) _ _ table
    (λ rows_value. then_so (read_parts C parts_value) _ _ table
    (λ parts. then_so (read_rows C parts rows_value) _ _ table
    (λ arrows. chain_so (read_cells C blanks parts cells) (read_cells C true parts cells) (whole parts arrows) (whole parts arrows) table
    (cells_so C blanks parts cells) (λ lists given. given))))))

-- the instance that is written, or none
any_instance_so : (C : Signature) (blanks : Bool) (value : Option Data) (table : Tabled) → instance_or_none C blanks value ≡ Ok table → instance_or_none C true value ≡ Ok table
any_instance_so C blanks None table is = is
any_instance_so C blanks (Some value) table is = instance_so C blanks value table is

-- ---- documents

-- the second value is the first one, but that its format is 2
record IsInFormat2 (one two : Data) : Type 0 where
  keys : has_only document_keys one ≡ true → has_only document_keys two ≡ true
  format : get (codes "format") two ≡ Some (number (unsigned 2))
  others : (key : List ℕ) → bytes_eq key (codes "format") ≡ false → get key two ≡ get key one

-- two values, of which the second is the first in format 2
module _ (one two : Data) (same : IsInFormat2 one two) where
  -- the schema of the first is written in the second
  schema_so : (schema : Data) → schema_in one ≡ Ok schema → schema_in two ≡ Ok schema
  schema_so schema =
      checked_so (fault_of 2 Whole) (has_only document_keys one) (has_only document_keys two) _ _ schema same.keys
      (chain_so (some_or (fault_of 2 Whole) (get (codes "schema") one)) (some_or (fault_of 2 Whole) (get (codes "schema") two)) _ _ schema
      (λ written is. rw (same.others (codes "schema") refl) is)
      (λ written is. rw same.format (
      chain (λ found. Ok written ≡ Ok found) (some_or (fault_of 2 Whole) (get (codes "format") one)) _
      (λ format there. chain (λ found. Ok written ≡ Ok found) (read_format format) _ (λ number read found given. given)) schema is
      )))

  -- what the first has besides its schema and its instance the second has too
  same_others : (schema : Presentation) (ops : List OpEntry) → read_others schema ops two ≡ read_others schema ops one
  same_others schema ops = rw (
    same.others (codes "rules") refl,
    same.others (codes "watches") refl,
    same.others (codes "span") refl,
    same.others (codes "cospan") refl,
    same.others (codes "schedule") refl,
  ) refl

  -- the second says over a schema what the first says
  over_so : (schema : Presentation) (ops : List OpEntry) (document : DocumentLists) → read_over schema ops one ≡ Ok document → read_over schema ops two ≡ Ok document
  over_so schema ops document =
      let C : Signature = signature_of schema in
      let blanks : Bool = allows_blanks one in
      chain_so (instance_or_none C blanks (get (codes "instance") one)) (instance_or_none C (allows_blanks two) (get (codes "instance") two)) _ _ document
      (λ table is. rw (same.format, same.others (codes "instance") refl) (any_instance_so C blanks (get (codes "instance") one) table is))
      (λ table is. rw (same_others schema ops) is)

  -- the second says what the first says
  value_so : (ops : List OpEntry) (document : DocumentLists) → read_value ops one ≡ Ok document → read_value ops two ≡ Ok document
  value_so ops document = chain_so (schema_in one) (schema_in two) _ _ document schema_so
      (λ written. then_so (read_schema written) (λ schema. read_over schema ops one) (λ schema. read_over schema ops two) document (λ schema. over_so schema ops document))

-- ---- the value with format 2

-- where all keys pass, so do they with one more that passes
put_passes_at : (test : List ℕ → Bool) (k l : List ℕ) (d e : Data) (rest : Members) (order : Ordering) → test k ≡ true → list_all test (keys_of (member l e rest)) ≡ true
    → list_all test (keys_of (put k d rest)) ≡ true
    → list_all test (keys_of (match_ordering order (member k d (member l e rest)) (member l d rest) (member l e (put k d rest)))) ≡ true
put_passes_at test k l d e rest Less known all later = rw (known, all) refl
put_passes_at test k l d e rest Equal known all later = all
put_passes_at test k l d e rest Greater known all later = rw ((and_parts (test l) (list_all test (keys_of rest)) all).0, later) refl

put_passes : (test : List ℕ → Bool) (k : List ℕ) (d : Data) (rest : Members) → test k ≡ true → list_all test (keys_of rest) ≡ true → list_all test (keys_of (put k d rest)) ≡ true
put_passes test k d no_members known all = rw known refl
put_passes test k d (member l e rest) known all =
    put_passes_at test k l d e rest (slice_cmp nat_cmp k l) known all
    (put_passes test k d rest known (and_parts (test l) (list_all test (keys_of rest)) all).1)

-- an object in format 2
object_in_format_2 : (members : Members) → IsInFormat2 (object members) (in_format_2 members)
object_in_format_2 members = record {
  keys = λ known. put_passes (λ key. list_any (bytes_eq key) document_keys) (codes "format") (number (unsigned 2)) members refl known;
  format = get_member-put (codes "format") (number (unsigned 2)) members;
  others = λ key apart. get_member-put_other key (codes "format") (number (unsigned 2)) members
      (λ equal. let never : false ≡ true = sym apart ∙ ap (λ other. bytes_eq other (codes "format")) equal in cc);
}

-- documents
pub formats_agree : FormatsAgree
formats_agree ops bytes others members document is_one is_two =
    rw (is_one, is_two) (value_so (object members) (in_format_2 members) (object_in_format_2 members) ops document)
