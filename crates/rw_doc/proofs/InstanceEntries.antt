-- The readers of an instance's sections tell the first fault.
use Rattle.std.proofs.Common.{◌≡◌, ◌≢◌, ◌∙◌, ◌<◌, ◌≤◌, ◌+◌, ◌==◌, inl, inr, ℕ, ℤ, zero, suc, Bool, true, false, Option, Some, None, Result, Ok, Err, List, [], length, nat_le, nat_lt, if◌then◌else◌, unwrap_or, option_map, slice_get, slice_index, refl, sym, ap, subst, arith}
use Rattle.std.specs.List.{range_with_len}
use Rattle.std.proofs.lemmas.Bool.{eqb-true, eq-eqb, ltb-true, leb-true}
use Rattle.std.proofs.lemmas.Option.{same_Some}
use Rattle.serde_json.specs.Data.{Data}
use Rattle.serde_json.specs.Data as json
use Rattle.serde_json.specs.Find.{as_str, as_i64}
use Rattle.rw_schema.specs.declared.atom.Atom.{Atom}
use Rattle.rw_schema.specs.declared.atom.Atom.TheVariants as atoms
use Rattle.rw_schema.specs.declared.parts.Equation as equations
use Rattle.rw_schema.specs.declared.section.Section.{Section}
use Rattle.rw_schema.specs.declared.section.Section.TheVariants.{Parts, Rows, Cells, Equation}
use Rattle.rw_schema.specs.declared.signature.AttrEnds.{AttrEnds}
use Rattle.rw_schema.specs.Atoms.{is_of_kind}
use Rattle.rw_schema.specs.First.{or_else, first_in, fault_unless}
use Rattle.rw_schema.specs.Signature.{Signature, source_of, holder_of}
use Rattle.rw_spec.specs.Ends.{target_of}
use Rattle.rw_spec.specs.Instance as instances
use Rattle.rw_spec.specs.Tabled.{Tabled}
use Rattle.rw_doc.specs.declared.fault.DocFault.{DocFault}
use Rattle.rw_doc.specs.Chain.{and_then, each_in, some_or, checked, unfaulted}
use Rattle.rw_doc.specs.Entries.{HasNone, IsLeastCode, IsClear, IsFirstOfList, no_code, HasOtherForm, IsWritten, form_at}
use Rattle.rw_doc.specs.Faults.{fault_at, fault_of}
use Rattle.rw_doc.specs.InstanceEntries as spec
use Rattle.rw_doc.specs.Instances as chains
use Rattle.rw_doc.specs.Json.{as_list, as_count, atom_of, is_null, is_short}
use Rattle.rw_doc.specs.Limits.{most_parts, longest_text}
use Rattle.rw_doc.specs.SchemaEntries.{items_in}
use Rattle.rw_doc.proofs.Chains.{checked_then}
use Rattle.rw_doc.proofs.FirstEntries.{TellsCode, entries_told, only_code, tells_alone, tells_checked, tells_some, placed_tell, told_in_section}
use Rattle.rw_doc.proofs.FirstLists.{TellsInList, told_in_list, lists_told, lists_tell, first_tells}
use Rattle.rw_doc.proofs.PartLists.{names_at}
use Rattle.rw_doc.proofs.Written.{written_at, written_is, no_other_form, nothing_written, nothing_of_other_form, never_both, many}

-- ---- lists of a length

-- a test of equal lengths that fails
pub other_length : (count most : ℕ) → (count == most) ≡ false → count ≢ most
other_length count most fails same = let passes : (count == most) ≡ true = eq-eqb count most same in cc

-- a list of a length that is asked for tells whether it is one
length_tells : (fault : DocFault) (at : ℕ → DocFault) (count : ℕ) (list : Option (List Data)) → at 2 ≡ fault
    → TellsCode (only_code 2 (spec.IsNoListOf count list)) at (chains.with_length fault count list)
length_tells fault at count None is = (2, sym is, record { stands = (refl, tt); least = λ code less has. let same : code ≡ 2 = has.0 in omega arith })
length_tells fault at count (Some items) is = by_test (length items == count) refl
  where
    by_test : (test : Bool) → (length items == count) ≡ test → TellsCode (only_code 2 (length items ≢ count)) at (checked fault test (Ok items))
    by_test true passes = λ code has. has.1 (eqb-true (length items) count passes)
    by_test false fails = (2, sym is, record { stands = (refl, other_length (length items) count fails); least = λ code less has. let same : code ≡ 2 = has.0 in omega arith })

-- what is read of it are its items
length_is : (fault : DocFault) (count : ℕ) (list : Option (List Data)) (read : List Data) → chains.with_length fault count list ≡ Ok read → unwrap_or list [] ≡ read
length_is fault count None read is = cc
length_is fault count (Some items) read is =
    checked_then (λ read. items ≡ read) fault (length items == count) (Ok items) (λ passes same one. cc) read is

-- ---- parts

-- the number of an object's parts tells its least code
part_count_tells : (items : List Data) (object : ℕ) (value : Data) → slice_get items object ≡ Some value
    → TellsCode (spec.PartCountHas items object) (λ code. fault_at code Parts object 0) (chains.read_part_count object value)
part_count_tells items object value found =
    let at = λ (code : ℕ). fault_at code Parts object 0 in
    let over = IsWritten as_count items object (λ count. most_parts < count) in
    tells_some 2 (HasOtherForm as_count items object) (only_code 4 over) at (as_count value) _ (λ code has. omega (arith, has.0))
    (λ none. (value, found, none))
    (λ count is other. no_other_form as_count items object count (written_at as_count items object value count found is) other)
    (λ count is. let here : form_at as_count items object ≡ Some count = written_at as_count items object value count found is in
    tells_alone 4 over at (checked (at 4) (nat_le count most_parts) (Ok count))
    (tells_checked 4 over no_code at (nat_le count most_parts) (Ok count) (λ code has. absurd has)
    (λ fails. (count, here, many count most_parts fails))
    (λ passes holds. let few : count ≤ most_parts = leb-true count most_parts passes in
    let more : most_parts < count = written_is as_count items object count (λ count. most_parts < count) here holds in omega arith)
    (λ passes code never. never)))

-- where there is no number, nothing is wrong
no_part_count : (items : List Data) (object : ℕ) → slice_get items object ≡ None → HasNone (spec.PartCountHas items object)
no_part_count items object none code (inl has) = nothing_of_other_form as_count items object none has.1
no_part_count items object none code (inr has) = nothing_written as_count items object (λ count. most_parts < count) none has.1

-- the numbers of parts tell their first fault
pub parts_tell : spec.PartsTellFirst
parts_tell C value =
    let items = items_in value in
    let list = chains.with_length (fault_of 2 Parts) C.objects (as_list value) in
    told_in_section Parts (spec.PartsHave C value) (spec.PartCountHas items) (and_then list (each_in chains.read_part_count 0))
    (placed_tell (λ place code. fault_at code Parts place 0) (spec.PartsHave C value) (spec.PartCountHas items) list items chains.read_part_count
    (length_tells (fault_of 2 Parts) (λ code. fault_at code Parts 0 0) C.objects (as_list value) refl) (length_is (fault_of 2 Parts) C.objects (as_list value))
    (part_count_tells items) (no_part_count items))

-- ---- the lists of a list

-- the list at a place tells whether it is one of the length
list_length_tells : (count : ℕ) (items : List Data) (place : ℕ) (value : Data) (section : Section) → slice_get items place ≡ Some value
    → TellsCode (only_code 2 (spec.HasNoListOf count items place)) (λ code. fault_at code section place 0) (chains.with_length (fault_at 2 section place 0) count (as_list value))
list_length_tells count items place value section found =
    moved (chains.with_length (fault_at 2 section place 0) count (as_list value))
    (length_tells (fault_at 2 section place 0) (λ code. fault_at code section place 0) count (as_list value) refl)
  where
    back : spec.HasNoListOf count items place → spec.IsNoListOf count (as_list value)
    back other = subst (λ value. spec.IsNoListOf count (as_list value)) (same_Some other.0 value (sym other.1 ∙ found)) other.2

    moved : (reading : Result (List Data) DocFault) → TellsCode (only_code 2 (spec.IsNoListOf count (as_list value))) (λ code. fault_at code section place 0) reading
        → TellsCode (only_code 2 (spec.HasNoListOf count items place)) (λ code. fault_at code section place 0) reading
    moved (Ok read) tells = λ code has. tells code (has.0, back has.1)
    moved (Err fault) tells = (
      tells.0,
      tells.1,
      record {
        stands = (tells.2.stands.0, (value, found, tells.2.stands.1));
        least = λ code less has. tells.2.least code less (has.0, back has.1);
      },
    )

-- the items of the list at a place
list_in_is : (items : List Data) (place : ℕ) (value : Data) → slice_get items place ≡ Some value → spec.list_in items place ≡ unwrap_or (as_list value) []
list_in_is items place value found = rw found refl

-- where no list stands, no item does
no_list_in : (items : List Data) (place position : ℕ) → slice_get items place ≡ None → slice_get (spec.list_in items place) position ≡ None
no_list_in items place position none = rw none refl

-- a list at a place, and its entries
list_at_tells : {A : Type 0} (section : Section) (count : ℕ) (items : List Data) (place : ℕ) (value : Data) (Has : ℕ → ℕ → Type 0) (f : ℕ → Data → Result A DocFault)
    → slice_get items place ≡ Some value
    → ((position : ℕ) (x : Data) → slice_get (spec.list_in items place) position ≡ Some x → TellsCode (Has position) (λ code. fault_at code section place position) (f position x))
    → ((position : ℕ) → slice_get (spec.list_in items place) position ≡ None → HasNone (Has position))
    → TellsInList section place (only_code 2 (spec.HasNoListOf count items place)) Has (and_then (chains.with_length (fault_at 2 section place 0) count (as_list value)) (each_in f 0))
list_at_tells section count items place value Has f found entries past =
    let list = chains.with_length (fault_at 2 section place 0) count (as_list value) in
    told_in_list section place (only_code 2 (spec.HasNoListOf count items place)) Has (and_then list (each_in f 0))
    (placed_tell (λ position code. fault_at code section place position) (only_code 2 (spec.HasNoListOf count items place)) Has list (spec.list_in items place) f
    (list_length_tells count items place value section found)
    (λ read is. list_in_is items place value found ∙ length_is (fault_at 2 section place 0) count (as_list value) read is)
    entries past)

-- where no list stands, nothing is wrong
no_list_at : (count : ℕ) (items : List Data) (place : ℕ) (Has : ℕ → ℕ → Type 0) → slice_get items place ≡ None
    → ((position : ℕ) → slice_get (spec.list_in items place) position ≡ None → HasNone (Has position))
    → IsClear (only_code 2 (spec.HasNoListOf count items place)) Has
no_list_at count items place Has none past = record {
  own = λ code has. never_both (slice_get items place) has.1.0 has.1.1 none;
  entries = λ position. past position (no_list_in items place position none);
}

-- ---- rows

-- an image tells its least code
image_tells : (C : Signature) (parts : List ℕ) (items : List Data) (arrow position : ℕ) (value : Data) → slice_get (spec.list_in items arrow) position ≡ Some value
    → TellsCode (spec.ImageHas C parts items arrow position) (λ code. fault_at code Rows arrow position) (chains.read_image (slice_index parts (target_of C arrow)) arrow position value)
image_tells C parts items arrow position value found =
    let list = spec.list_in items arrow in
    let targets = slice_index parts (target_of C arrow) in
    let at = λ (code : ℕ). fault_at code Rows arrow position in
    let past = IsWritten as_count list position (λ image. targets ≤ image) in
    tells_some 2 (HasOtherForm as_count list position) (only_code 8 past) at (as_count value) _ (λ code has. omega (arith, has.0))
    (λ none. (value, found, none))
    (λ image is other. no_other_form as_count list position image (written_at as_count list position value image found is) other)
    (λ image is. let here : form_at as_count list position ≡ Some image = written_at as_count list position value image found is in
    tells_alone 8 past at (checked (at 8) (nat_lt image targets) (Ok image))
    (tells_checked 8 past no_code at (nat_lt image targets) (Ok image) (λ code has. absurd has)
    (λ fails. (image, here, not_less image targets fails))
    (λ passes holds. let below : image < targets = ltb-true image targets passes in
    let more : targets ≤ image = written_is as_count list position image (λ image. targets ≤ image) here holds in omega arith)
    (λ passes code never. never)))
  where
    not_less : (image targets : ℕ) → nat_lt image targets ≡ false → targets ≤ image
    not_less image targets fails = grind arith

-- where there is no image, nothing is wrong
no_image : (C : Signature) (parts : List ℕ) (items : List Data) (arrow position : ℕ) → slice_get (spec.list_in items arrow) position ≡ None → HasNone (spec.ImageHas C parts items arrow position)
no_image C parts items arrow position none code (inl has) = nothing_of_other_form as_count (spec.list_in items arrow) position none has.1
no_image C parts items arrow position none code (inr has) =
    nothing_written as_count (spec.list_in items arrow) position (λ image. slice_index parts (target_of C arrow) ≤ image) none has.1

-- the rows tell their first fault
pub rows_tell : spec.RowsTellFirst
rows_tell C parts value =
    let items = items_in value in
    lists_tell Rows (spec.RowsHave C value) (spec.RowHas C parts items) (spec.ImageHas C parts items) (chains.with_length (fault_of 2 Rows) (length C.arrows) (as_list value)) items (chains.read_row C parts)
    (length_tells (fault_of 2 Rows) (λ code. fault_at code Rows 0 0) (length C.arrows) (as_list value) refl) (length_is (fault_of 2 Rows) (length C.arrows) (as_list value))
    (λ arrow row found. list_at_tells Rows (slice_index parts (source_of C arrow)) items arrow row (spec.ImageHas C parts items arrow) (chains.read_image (slice_index parts (target_of C arrow)) arrow)
    found (image_tells C parts items arrow) (no_image C parts items arrow))
    (λ arrow none. no_list_at (slice_index parts (source_of C arrow)) items arrow (spec.ImageHas C parts items arrow) none (no_image C parts items arrow))

-- ---- cells

-- the atom is of the attribute's kind where the test says so
of_attribute : (C : Signature) (attribute : ℕ) (atom : Atom) → chains.is_of_attribute (slice_get C.attributes attribute) atom ≡ true
    → (ends : AttrEnds) × (slice_get C.attributes attribute ≡ Some ends) × (is_of_kind ends.kind atom ≡ true)
of_attribute C attribute atom = by_ends (slice_get C.attributes attribute)
  where
    by_ends : (ends : Option AttrEnds) → chains.is_of_attribute ends atom ≡ true → (found : AttrEnds) × (ends ≡ Some found) × (is_of_kind found.kind atom ≡ true)
    by_ends None passes = cc
    by_ends (Some ends) passes = (ends, refl, passes)

-- a blank is no atom
pub no_atom : (value : Data) → is_null value ≡ true → atom_of value ≡ None
no_atom json.null is = refl
no_atom (json.boolean truth) is = cc
no_atom (json.number number) is = cc
no_atom (json.string text) is = cc
no_atom (json.array items) is = cc
no_atom (json.object entries) is = cc

-- a text is an atom
pub text_atom : (value : Data) (text : List ℕ) → as_str value ≡ Some text → (is_null value ≡ false) × (atom_of value ≡ Some (atoms.Text text))
text_atom json.null text is = cc
text_atom (json.boolean truth) text is = cc
text_atom (json.number number) text is = cc
text_atom (json.string bytes) text is = let same : bytes ≡ text = same_Some bytes text is in rw same (refl, refl)
text_atom (json.array items) text is = cc
text_atom (json.object entries) text is = cc

-- a number is never too long
short_number : (number : Option ℤ) (atom : Atom) → or_else (option_map atoms.Int number) None ≡ Some atom → is_short atom ≡ true
short_number None atom is = absurd (let never : ⊥ = cc in never)
short_number (Some integer) atom is = subst (λ atom. is_short atom ≡ true) (same_Some (atoms.Int integer) atom is) refl

-- an atom that is too long is a text
pub long_atom : (value : Data) (atom : Atom) → atom_of value ≡ Some atom → is_short atom ≡ false → (text : List ℕ) × (as_str value ≡ Some text) × (longest_text < length text)
long_atom json.null atom is long = absurd (let never : ⊥ = cc in never)
long_atom (json.boolean truth) atom is long =
    let same : atoms.Bool truth ≡ atom = same_Some (atoms.Bool truth) atom is in
    let short : is_short atom ≡ true = rw (← same) refl in absurd (let never : ⊥ = cc in never)
long_atom (json.number number) atom is long = let short : is_short atom ≡ true = short_number (as_i64 number) atom is in absurd (let never : ⊥ = cc in never)
long_atom (json.string bytes) atom is long =
    let same : atoms.Text bytes ≡ atom = same_Some (atoms.Text bytes) atom is in
    (bytes, refl, many (length bytes) longest_text (rw (← same) at long))
long_atom (json.array items) atom is long = absurd (let never : ⊥ = cc in never)
long_atom (json.object entries) atom is long = absurd (let never : ⊥ = cc in never)

-- a text with too many bytes stands at the place
abbrev HasLongText : List Data → ℕ → Type 0
HasLongText list position = IsWritten as_str list position (λ text. longest_text < length text)

-- where an atom stands that is short, no text is too long
no_long_text : (list : List Data) (position : ℕ) (value : Data) → slice_get list position ≡ Some value
    → ((atom : Atom) → atom_of value ≡ Some atom → is_null value ≡ false → is_short atom ≡ true) → HasLongText list position → ⊥
no_long_text list position value found short long =
    let written : as_str value ≡ Some long.0 = rw found at long.1 in
    let atom = text_atom value long.0 written in
    let passes : nat_le (length long.0) longest_text ≡ true = short (atoms.Text long.0) atom.1 atom.0 in
    let few : length long.0 ≤ longest_text = leb-true (length long.0) longest_text passes in
    let more = long.2 in omega arith

-- a value that may not stand in the cell, and no text that is too long, is told by code 9
refused_cell : (C : Signature) (blanks : Bool) (items : List Data) (attribute position : ℕ) (value : Data) → slice_get (spec.list_in items attribute) position ≡ Some value
    → (spec.IsCellOf C blanks attribute value → ⊥) → (HasLongText (spec.list_in items attribute) position → ⊥)
    → TellsCode {A = Option Atom} (spec.CellHas C blanks items attribute position) (λ code. fault_at code Cells attribute position) (Err (fault_at 9 Cells attribute position))
refused_cell C blanks items attribute position value found no_cell short = (
  9,
  refl,
  record {
    stands = inr (refl, (value, found, no_cell));
    least = λ code less has. elim has [
      | inl long ↦ absurd (short long.1)
      | inr other ↦ (let same : code ≡ 9 = other.0 in omega arith)
    ];
  },
)

-- with one that may, nothing is wrong
taken_cell : (C : Signature) (blanks : Bool) (items : List Data) (attribute position : ℕ) (value : Data) → slice_get (spec.list_in items attribute) position ≡ Some value
    → spec.IsCellOf C blanks attribute value → (HasLongText (spec.list_in items attribute) position → ⊥) → HasNone (spec.CellHas C blanks items attribute position)
taken_cell C blanks items attribute position value found cell short code (inl long) = short long.1
taken_cell C blanks items attribute position value found cell short code (inr other) =
    other.1.2 (subst (λ value. spec.IsCellOf C blanks attribute value) (same_Some value other.1.0 (sym found ∙ other.1.1)) cell)

-- the code of one condition
its_code : (this : ℕ) (Holds : Type 0) → Holds → IsLeastCode (only_code this Holds) this
its_code this Holds holds = record { stands = (refl, holds); least = λ code less has. let same : code ≡ this = has.0 in omega arith }

-- a blank
null_tells : (C : Signature) (blanks : Bool) (items : List Data) (attribute position : ℕ) (value : Data) → slice_get (spec.list_in items attribute) position ≡ Some value → is_null value ≡ true
    → TellsCode {A = Option Atom} (spec.CellHas C blanks items attribute position) (λ code. fault_at code Cells attribute position) (checked (fault_at 9 Cells attribute position) blanks (Ok None))
null_tells C true items attribute position value found is =
    taken_cell C true items attribute position value found (inl (is, refl)) (no_long_text (spec.list_in items attribute) position value found (λ atom given no. cc))
null_tells C false items attribute position value found is =
    refused_cell C false items attribute position value found
    (λ cell. elim cell [ inl blank ↦ (let wrong : false ≡ true = blank.1 in cc) | inr atom ↦ never_both (atom_of value) atom.0 atom.2 (no_atom value is) ])
    (no_long_text (spec.list_in items attribute) position value found (λ atom given no. cc))

-- an atom that is no text that is too long
short_tells : (C : Signature) (blanks : Bool) (items : List Data) (attribute position : ℕ) (value : Data) (atom : Atom) (of : Bool)
    → slice_get (spec.list_in items attribute) position ≡ Some value → is_null value ≡ false → atom_of value ≡ Some atom → is_short atom ≡ true
    → chains.is_of_attribute (slice_get C.attributes attribute) atom ≡ of
    → TellsCode {A = Option Atom} (spec.CellHas C blanks items attribute position) (λ code. fault_at code Cells attribute position) (checked (fault_at 9 Cells attribute position) of (Ok (Some atom)))
short_tells C blanks items attribute position value atom true found no_null is short kind =
    let ends = of_attribute C attribute atom kind in
    taken_cell C blanks items attribute position value found (inr (atom, ends.0, is, ends.1, ends.2))
    (no_long_text (spec.list_in items attribute) position value found (λ other given no. subst (λ atom. is_short atom ≡ true) (same_Some atom other (sym is ∙ given)) short))
short_tells C blanks items attribute position value atom false found no_null is short kind =
    refused_cell C blanks items attribute position value found
    (λ cell. elim cell [
      | inl blank ↦ (let wrong : is_null value ≡ true = blank.0 in cc)
      | inr other ↦
          let same : other.0 ≡ atom = same_Some other.0 atom (sym other.2 ∙ is) in
          let passes : is_of_kind other.1.kind atom ≡ true = subst (λ atom. is_of_kind other.1.kind atom ≡ true) same other.4 in
          (let fails : is_of_kind other.1.kind atom ≡ false = rw other.3 at kind in cc)
    ])
    (no_long_text (spec.list_in items attribute) position value found (λ other given no. subst (λ atom. is_short atom ≡ true) (same_Some atom other (sym is ∙ given)) short))

-- an atom
atom_tells : (C : Signature) (blanks : Bool) (items : List Data) (attribute position : ℕ) (value : Data) (atom : Atom) (short : Bool)
    → slice_get (spec.list_in items attribute) position ≡ Some value → is_null value ≡ false → atom_of value ≡ Some atom → is_short atom ≡ short
    → TellsCode {A = Option Atom} (spec.CellHas C blanks items attribute position) (λ code. fault_at code Cells attribute position)
    (checked (fault_at 4 Cells attribute position) short (checked (fault_at 9 Cells attribute position) (chains.is_of_attribute (slice_get C.attributes attribute) atom) (Ok (Some atom))))
atom_tells C blanks items attribute position value atom true found no_null is short =
    short_tells C blanks items attribute position value atom (chains.is_of_attribute (slice_get C.attributes attribute) atom) found no_null is short refl
atom_tells C blanks items attribute position value atom false found no_null is short =
    let list = spec.list_in items attribute in
    let text = long_atom value atom is short in (
      4,
      refl,
      record {
        stands = inl (refl, (text.0, written_at as_str list position value text.0 found text.1, text.2));
        least = λ code less has. elim has [
          | inl long ↦ (let same : code ≡ 4 = long.0 in omega arith)
          | inr other ↦ (let same : code ≡ 9 = other.0 in omega arith)
        ];
      },
    )

-- what is no blank
value_tells : (C : Signature) (blanks : Bool) (items : List Data) (attribute position : ℕ) (value : Data) (atom : Option Atom)
    → slice_get (spec.list_in items attribute) position ≡ Some value → is_null value ≡ false → atom_of value ≡ atom
    → TellsCode {A = Option Atom} (spec.CellHas C blanks items attribute position) (λ code. fault_at code Cells attribute position)
    (and_then (some_or (fault_at 9 Cells attribute position) atom) (λ atom.
    checked (fault_at 4 Cells attribute position) (is_short atom)
    (checked (fault_at 9 Cells attribute position) (chains.is_of_attribute (slice_get C.attributes attribute) atom) (Ok (Some atom)))))
value_tells C blanks items attribute position value (Some atom) found no_null is = atom_tells C blanks items attribute position value atom (is_short atom) found no_null is refl
value_tells C blanks items attribute position value None found no_null is =
    refused_cell C blanks items attribute position value found
    (λ cell. elim cell [ inl blank ↦ (let wrong : is_null value ≡ true = blank.0 in cc) | inr other ↦ never_both (atom_of value) other.0 other.2 is ])
    (no_long_text (spec.list_in items attribute) position value found (λ atom given no. absurd (never_both (atom_of value) atom given is)))

-- a cell tells its least code
cell_tells : (C : Signature) (blanks : Bool) (items : List Data) (attribute position : ℕ) (value : Data) → slice_get (spec.list_in items attribute) position ≡ Some value
    → TellsCode (spec.CellHas C blanks items attribute position) (λ code. fault_at code Cells attribute position) (chains.read_cell C blanks attribute position value)
cell_tells C blanks items attribute position value found = by_null (is_null value) refl
  where
    by_null : (blank : Bool) → is_null value ≡ blank
        → TellsCode (spec.CellHas C blanks items attribute position) (λ code. fault_at code Cells attribute position)
        (if blank then checked (fault_at 9 Cells attribute position) blanks (Ok None)
        else and_then (some_or (fault_at 9 Cells attribute position) (atom_of value)) (λ atom.
        checked (fault_at 4 Cells attribute position) (is_short atom)
        (checked (fault_at 9 Cells attribute position) (chains.is_of_attribute (slice_get C.attributes attribute) atom) (Ok (Some atom)))))
    by_null true is = null_tells C blanks items attribute position value found is
    by_null false is = value_tells C blanks items attribute position value (atom_of value) found is refl

-- where there is no cell, nothing is wrong
no_cell : (C : Signature) (blanks : Bool) (items : List Data) (attribute position : ℕ) → slice_get (spec.list_in items attribute) position ≡ None
    → HasNone (spec.CellHas C blanks items attribute position)
no_cell C blanks items attribute position none code (inl long) = nothing_written as_str (spec.list_in items attribute) position (λ text. longest_text < length text) none long.1
no_cell C blanks items attribute position none code (inr other) = never_both (slice_get (spec.list_in items attribute) position) other.1.0 other.1.1 none

-- the cells tell their first fault
pub cells_tell : spec.CellsTellFirst
cells_tell C blanks parts value =
    let items = spec.cell_items value in
    lists_tell Cells (spec.CellsHave C value) (spec.CellListHas C parts items) (spec.CellHas C blanks items)
    (chains.with_length (fault_of 2 Cells) (length C.attributes) (chains.lists_or_none value)) items (chains.read_cell_list C blanks parts)
    (length_tells (fault_of 2 Cells) (λ code. fault_at code Cells 0 0) (length C.attributes) (chains.lists_or_none value) refl)
    (length_is (fault_of 2 Cells) (length C.attributes) (chains.lists_or_none value))
    (λ attribute list found. list_at_tells Cells (slice_index parts (holder_of C attribute)) items attribute list (spec.CellHas C blanks items attribute) (chains.read_cell C blanks attribute)
    found (cell_tells C blanks items attribute) (no_cell C blanks items attribute))
    (λ attribute none. no_list_at (slice_index parts (holder_of C attribute)) items attribute (spec.CellHas C blanks items attribute) none (no_cell C blanks items attribute))

-- ---- equations

-- a number of a row of numbers from first on
pub range_at : (first count place x : ℕ) → slice_get (range_with_len first count) place ≡ Some x → (x ≡ first + place) × (place < count)
range_at first zero place x found = cc
range_at first (suc count) zero x found = let same : first ≡ x = same_Some first x found in (omega arith, omega arith)
range_at first (suc count) (suc place) x found =
    let later = range_at (first + 1) count place x found in
    let same = later.0 in
    let less = later.1 in (omega arith, omega arith)

-- a row of numbers has an end
range_past : (first count place : ℕ) → slice_get (range_with_len first count) place ≡ None → count ≤ place
range_past first zero place none = omega arith
range_past first (suc count) zero none = cc
range_past first (suc count) (suc place) none = let later = range_past (first + 1) count place none in omega arith

-- a test of an equation at a part
part_tells : (C : Signature) (parts : List ℕ) (X : instances.Instance) (place part x : ℕ) (equation : equations.Equation) (test : Bool)
    → slice_get C.equations place ≡ Some equation → x ≡ part → part < slice_index parts equation.object.0 → instances.agrees_at X equation x ≡ test
    → TellsCode {A = ℕ} (spec.EquationFailsAt C parts X place part) (λ code. fault_at code Equation place part) (unfaulted (fault_unless test (fault_at 10 Equation place x)) x)
part_tells C parts X place part x equation true found is within agrees = λ code has.
    let same : equation ≡ has.1.0 = same_Some equation has.1.0 (sym found ∙ has.1.1) in
    let equal : instances.follow X equation.left x ≡ instances.follow X equation.right x = eqb-true (instances.follow X equation.left x) (instances.follow X equation.right x) agrees in
    has.1.3 (subst (λ (e : equations.Equation). instances.follow X e.left part ≡ instances.follow X e.right part) same
    (subst (λ (n : ℕ). instances.follow X equation.left n ≡ instances.follow X equation.right n) is equal))
part_tells C parts X place part x equation false found is within agrees = (
  10,
  ap (λ n. fault_at 10 Equation place n) is,
  its_code 10 _ (
    equation,
    found,
    within,
    λ same. other_length (instances.follow X equation.left x) (instances.follow X equation.right x) agrees
        (subst (λ (n : ℕ). instances.follow X equation.left n ≡ instances.follow X equation.right n) (sym is) same),
  ),
)

-- a part that is not there
no_part : (C : Signature) (parts : List ℕ) (X : instances.Instance) (place part : ℕ) (equation : equations.Equation) → slice_get C.equations place ≡ Some equation
    → slice_index parts equation.object.0 ≤ part → HasNone (spec.EquationFailsAt C parts X place part)
no_part C parts X place part equation found past code has =
    let same : has.1.0 ≡ equation = same_Some has.1.0 equation (sym has.1.1 ∙ found) in
    let within : part < slice_index parts equation.object.0 = subst (λ (e : equations.Equation). part < slice_index parts e.object.0) same has.1.2 in
    omega arith

-- an equation tells where it fails first
failures_tell : (C : Signature) (parts : List ℕ) (arrows : List (List ℕ)) (cells : List (List (Option Atom))) (place : ℕ) (equation : equations.Equation)
    → slice_get C.equations place ≡ Some equation
    → let X = instances.instance_of C (chains.rows_of parts arrows cells) in
    TellsInList {A = equations.Equation} Equation place no_code (spec.EquationFailsAt C parts X place) (unfaulted (chains.failure_at X place equation) equation)
failures_tell C parts arrows cells place equation found =
    let X = instances.instance_of C (chains.rows_of parts arrows cells) in
    let count = slice_index parts equation.object.0 in
    let f = λ (position : ℕ) (part : ℕ). fault_unless (instances.agrees_at X equation part) (fault_at 10 Equation place part) in
    let reading : Result equations.Equation DocFault = unfaulted (first_in f 0 (X.names equation.object.0)) equation in
    told_in_list Equation place no_code (spec.EquationFailsAt C parts X place) reading
    (entries_told (λ part code. fault_at code Equation place part) no_code (spec.EquationFailsAt C parts X place) reading (λ code never. never)
    (first_tells f (λ part. HasNone (spec.EquationFailsAt C parts X place part))
    (λ part fault. (code : ℕ) × (fault ≡ fault_at code Equation place part) × IsLeastCode (spec.EquationFailsAt C parts X place part) code) (X.names equation.object.0) equation
    (λ part x there. let at_place = range_at 0 count part x (rw (names_at parts equation.object.0) at there) in
    let is : x ≡ part = let same = at_place.0 in omega arith in
    part_tells C parts X place part x equation (instances.agrees_at X equation x) found is at_place.1 refl)
    (λ part none. no_part C parts X place part equation found (range_past 0 count part (rw (names_at parts equation.object.0) at none)))))

-- the equations tell where the first fails
pub failures_first : spec.FailuresTellFirst
failures_first C parts arrows cells =
    let X = instances.instance_of C (chains.rows_of parts arrows cells) in
    let table : Tabled = record { signature = C; rows = chains.rows_of parts arrows cells } in
    lists_told Equation no_code (λ place. no_code) (spec.EquationFailsAt C parts X) (unfaulted (chains.first_failure C X) table) (λ code never. never)
    (first_tells (chains.failure_at X) (λ place. IsClear no_code (spec.EquationFailsAt C parts X place))
    (λ place fault. (fault ≡ fault_at fault.code Equation place fault.second) × IsFirstOfList no_code (spec.EquationFailsAt C parts X place) fault.second fault.code) C.equations table
    (λ place equation found. failures_tell C parts arrows cells place equation found)
    (λ place none. record { own = λ code never. never; entries = λ part code has. never_both (slice_get C.equations place) has.1.0 has.1.1 none }))
