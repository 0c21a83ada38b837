-- An instance of a piece tells its least code.
use Rattle.std.proofs.Common.{◌≡◌, ◌∙◌, ◌<◌, ◌≤◌, ◌==◌, inl, inr, ℕ, Bool, true, false, is_none, if◌then◌else◌, nat_le, nat_lt, Option, Some, None, Result, Ok, Err, List, length, option_and_then, slice_get, slice_index, refl, sym, subst, zero-add, arith}
use Rattle.std.specs.List.{list_all}
use Rattle.std.proofs.lemmas.Bool.{and_parts, cases_Bool, eqb-true, leb-true, ltb-true}
use Rattle.std.proofs.lemmas.Option.{same_Some}
use Rattle.serde_json.specs.Data.{Data}
use Rattle.serde_json.specs.Find.{as_str}
use Rattle.rw_schema.specs.declared.atom.Atom.{Atom}
use Rattle.rw_schema.specs.declared.atom.Atom.TheVariants as atoms
use Rattle.rw_schema.specs.declared.signature.AttrEnds.{AttrEnds}
use Rattle.rw_schema.specs.Atoms.{is_of_kind}
use Rattle.rw_schema.specs.First.{all_in, map_in}
use Rattle.rw_schema.specs.RowLists.{list_at}
use Rattle.rw_schema.specs.Signature.{Signature}
use Rattle.rw_schema.proofs.Lists.{list_all_at}
use Rattle.rw_spec.proofs.Sequences.{all_in_at}
use Rattle.rw_spec.specs.Instance.{Instance, instance_of}
use Rattle.rw_spec.specs.Tabled.{Tabled}
use Rattle.rw_table.specs.declared.fault.TableFault.{TableFault}
use Rattle.rw_table.specs.TableFaults.{equation_fault}
use Rattle.rw_doc.specs.declared.fault.DocFault.{DocFault}
use Rattle.rw_doc.specs.declared.piece.Piece.{Piece}
use Rattle.rw_doc.specs.Chain.{all_some, checked}
use Rattle.rw_doc.specs.Entries.{TellsLeast, IsLeastCode, AreClear, IsFirstOfList, IsFirstOfLists, no_code}
use Rattle.rw_doc.specs.InstanceEntries.{IsCellOf, EquationFailsAt}
use Rattle.rw_doc.specs.Instances.{rows_of, with_equations}
use Rattle.rw_doc.specs.Json.{is_null, atom_of}
use Rattle.rw_doc.specs.Limits.{most_parts, longest_text}
use Rattle.rw_doc.specs.Pieces.{fault_in}
use Rattle.rw_doc.specs.Faults.{fault_at}
use Rattle.rw_schema.specs.declared.section.Section.TheVariants as sections
use Rattle.rw_doc.proofs.Checked.{none_is}
use Rattle.rw_doc.proofs.FirstEntries.{TellsCode, or_code, only_code, tells_alone, tells_checked, tells_some}
use Rattle.rw_doc.proofs.FirstFailures.{failure_read, equations_hold}
use Rattle.rw_doc.proofs.InstanceEntries.{failures_first, other_length, long_atom, text_atom}
use Rattle.rw_doc.proofs.Unnamed.{told, told_clear}
use Rattle.rw_doc.proofs.Written.{never_both, many}
use Rattle.rw_docspan.specs.Instances as spec
use Rattle.rw_docspan.specs.Instances.{InstanceForm}
use Rattle.rw_docspan.specs.PieceEntries.{IsFormWith, HasOtherLength, IsPastLimits, HasStrayImage, HasOtherCell, HasFailure, InstanceHas, InstancesTellLeast}
use Rattle.rw_docspan.proofs.Failing.{one_fails, one_fails_in, one_gives_nothing, all_give, from_place}
use Rattle.rw_docspan.proofs.SoundForms.{lengths_known, cells_at}

-- the code is in the fault of a piece
pub told_in_piece : {A : Type 0} (piece : Piece) (Has : ℕ → Type 0) (reading : Result A DocFault) → TellsCode Has (fault_in piece) reading → TellsLeast piece Has reading
told_in_piece piece Has (Ok value) tells = tells
told_in_piece piece Has (Err fault) tells =
    subst (λ (fault : DocFault). (fault ≡ fault_in piece fault.code) × IsLeastCode Has fault.code) (sym tells.1) (refl, tells.2)

-- ---- what is written

-- of what is written a property holds where it is written that it does
form_is : (value : Data) (form : InstanceForm) (Property : InstanceForm → Type 0) → spec.form_of value ≡ Some form → IsFormWith value Property → Property form
form_is value form Property written holds = subst Property (same_Some holds.0 form (sym holds.1 ∙ written)) holds.2

-- ---- lengths

-- the row of an arrow has another length
row_length : (C : Signature) (form : InstanceForm) → all_in (spec.has_row_length form.parts form.rows) 0 C.arrows ≡ false → HasOtherLength C form
row_length C form fails =
    let one = one_fails_in (spec.has_row_length form.parts form.rows) 0 C.arrows fails in
    let at = rw zero-add at one.3 in
    inr (inr (inr (inl (one.0, one.1, one.2, other_length (length (list_at form.rows one.0)) (slice_index form.parts one.1.source.0) at))))

-- the list of an attribute has another length
cell_length : (C : Signature) (form : InstanceForm) → all_in (spec.has_cell_length form.parts form.cells) 0 C.attributes ≡ false → HasOtherLength C form
cell_length C form fails =
    let one = one_fails_in (spec.has_cell_length form.parts form.cells) 0 C.attributes fails in
    let at = rw zero-add at one.3 in
    inr (inr (inr (inr (one.0, one.1, one.2, other_length (length (list_at form.cells one.0)) (slice_index form.parts one.1.object.0) at))))

-- where the test of the lengths fails, a list has another
lengths_fail : (C : Signature) (form : InstanceForm) → spec.has_lengths C form ≡ false → HasOtherLength C form
lengths_fail C form fails = elim (cases_Bool (length form.parts == C.objects)) [
  | inr parts ↦ inl (other_length (length form.parts) C.objects parts)
  | inl parts ↦ elim (cases_Bool (length form.rows == length C.arrows)) [
    | inr rows ↦ inr (inl (other_length (length form.rows) (length C.arrows) rows))
    | inl rows ↦ elim (cases_Bool (length form.cells == length C.attributes)) [
      | inr cells ↦ inr (inr (inl (other_length (length form.cells) (length C.attributes) cells)))
      | inl cells ↦ elim (cases_Bool (all_in (spec.has_row_length form.parts form.rows) 0 C.arrows)) [
        | inr lists ↦ row_length C form lists
        | inl lists ↦ cell_length C form (rw (parts, rows, cells, lists) at fails)
      ]
    ]
  ]
]

-- where it passes, none has
lengths_pass : (C : Signature) (form : InstanceForm) → spec.has_lengths C form ≡ true → HasOtherLength C form → ⊥
lengths_pass C form passes (inl parts) = parts (lengths_known C form passes).parts
lengths_pass C form passes (inr (inl rows)) = rows (lengths_known C form passes).rows
lengths_pass C form passes (inr (inr (inl cells))) = cells (lengths_known C form passes).cells
lengths_pass C form passes (inr (inr (inr (inl row)))) =
    let all = all_in_at (spec.has_row_length form.parts form.rows) 0 C.arrows row.0 row.1 (lengths_known C form passes).row_lengths row.2 in
    row.3 (eqb-true (length (list_at form.rows row.0)) (slice_index form.parts row.1.source.0) (rw zero-add at all))
lengths_pass C form passes (inr (inr (inr (inr list)))) =
    let all = all_in_at (spec.has_cell_length form.parts form.cells) 0 C.attributes list.0 list.1 (lengths_known C form passes).cell_lengths list.2 in
    list.3 (eqb-true (length (list_at form.cells list.0)) (slice_index form.parts list.1.object.0) (rw zero-add at all))

-- ---- limits

-- a value whose atom is too long is a text that is
long_value : (value : Data) (atom : Option Atom) → atom_of value ≡ atom → spec.is_short_or_none atom ≡ false → (text : List ℕ) × (as_str value ≡ Some text) × (longest_text < length text)
long_value value None is fails = let never : ⊥ = cc in absurd never
long_value value (Some atom) is fails = long_atom value atom is fails

-- where the test of the limits fails, one is passed
limits_fail : (form : InstanceForm) → spec.is_in_limits form ≡ false → IsPastLimits form
limits_fail form fails = elim (cases_Bool (spec.are_few form.parts)) [
  | inr many_parts ↦
      let one = one_fails (λ count. nat_le count most_parts) form.parts many_parts in
      inl (one.0, one.1, one.2, many one.1 most_parts one.3)
  | inl few ↦
      let list = one_fails spec.are_short form.cells (rw few at fails) in
      let one = one_fails (λ value. spec.is_short_or_none (atom_of value)) list.1 list.3 in
      let text = long_value one.1 (atom_of one.1) refl one.3 in
      inr (list.0, list.1, one.0, one.1, text.0, list.2, one.2, text.1, text.2)
]

-- where it passes, none is
limits_pass : (form : InstanceForm) → spec.is_in_limits form ≡ true → IsPastLimits form → ⊥
limits_pass form passes (inl over) =
    let few = (and_parts (spec.are_few form.parts) (list_all spec.are_short form.cells) passes).0 in
    let one : nat_le over.1 most_parts ≡ true = list_all_at (λ count. nat_le count most_parts) form.parts over.0 over.1 few over.2 in
    let less : over.1 ≤ most_parts = leb-true over.1 most_parts one in
    let more : most_parts < over.1 = over.3 in omega arith
limits_pass form passes (inr long) =
    let short = (and_parts (spec.are_few form.parts) (list_all spec.are_short form.cells) passes).1 in
    let list : spec.are_short long.1 ≡ true = list_all_at spec.are_short form.cells long.0 long.1 short long.5 in
    let one : spec.is_short_or_none (atom_of long.3) ≡ true = list_all_at (λ value. spec.is_short_or_none (atom_of value)) long.1 long.2 long.3 list long.6 in
    let atom : atom_of long.3 ≡ Some (atoms.Text long.4) = (text_atom long.3 long.4 long.7).1 in
    let within : nat_le (length long.4) longest_text ≡ true = rw atom at one in
    let less : length long.4 ≤ longest_text = leb-true (length long.4) longest_text within in
    let more : longest_text < length long.4 = long.8 in omega arith

-- ---- images

-- where the test of the images fails, one is not there
images_fail : (C : Signature) (form : InstanceForm) → all_in (spec.has_images form.parts form.rows) 0 C.arrows ≡ false → HasStrayImage C form
images_fail C form fails =
    let row = one_fails_in (spec.has_images form.parts form.rows) 0 C.arrows fails in
    let at : list_all (λ image. nat_lt image (slice_index form.parts row.1.target.0)) (list_at form.rows row.0) ≡ false = rw zero-add at row.3 in
    let one = one_fails (λ image. nat_lt image (slice_index form.parts row.1.target.0)) (list_at form.rows row.0) at in
    (row.0, row.1, one.0, one.1, row.2, one.2, not_less one.1 (slice_index form.parts row.1.target.0) one.3)
  where
    not_less : (image targets : ℕ) → nat_lt image targets ≡ false → targets ≤ image
    not_less image targets fails = grind arith

-- where it passes, all are
images_pass : (C : Signature) (form : InstanceForm) → all_in (spec.has_images form.parts form.rows) 0 C.arrows ≡ true → HasStrayImage C form → ⊥
images_pass C form passes stray =
    let targets = slice_index form.parts stray.1.target.0 in
    let row : list_all (λ image. nat_lt image targets) (list_at form.rows stray.0) ≡ true =
    rw zero-add at (all_in_at (spec.has_images form.parts form.rows) 0 C.arrows stray.0 stray.1 passes stray.4) in
    let one : nat_lt stray.3 targets ≡ true = list_all_at (λ image. nat_lt image targets) (list_at form.rows stray.0) stray.2 stray.3 row stray.5 in
    let less : stray.3 < targets = ltb-true stray.3 targets one in
    let more : targets ≤ stray.3 = stray.6 in omega arith

-- ---- cells

-- what gives no cell of the kind is none that may stand there
no_cell_of : (C : Signature) (attribute : ℕ) (ends : AttrEnds) (value : Data) → slice_get C.attributes attribute ≡ Some ends → spec.cell_of ends.kind value ≡ None
    → IsCellOf C true attribute value → ⊥
no_cell_of C attribute ends value found none (inl blank) = let some : spec.cell_of ends.kind value ≡ Some None = rw blank.0 refl in cc
no_cell_of C attribute ends value found none (inr atom) =
    let same : atom.1 ≡ ends = same_Some atom.1 ends (sym atom.3 ∙ found) in
    let kind : is_of_kind ends.kind atom.0 ≡ true = subst (λ (ends : AttrEnds). is_of_kind ends.kind atom.0 ≡ true) same atom.4 in
    by_null (is_null value) refl kind
  where
    by_null : (blank : Bool) → is_null value ≡ blank → is_of_kind ends.kind atom.0 ≡ true → ⊥
    by_null true is kind = let some : spec.cell_of ends.kind value ≡ Some None = rw is refl in cc
    by_null false is kind = let some : spec.cell_of ends.kind value ≡ Some (Some atom.0) = rw (is, atom.2, kind) refl in cc

-- what gives a cell of the kind may stand there
a_cell_of : (C : Signature) (attribute : ℕ) (ends : AttrEnds) (value : Data) → slice_get C.attributes attribute ≡ Some ends → (IsCellOf C true attribute value → ⊥)
    → spec.cell_of ends.kind value ≡ None
a_cell_of C attribute ends value found other = by_null (is_null value) refl (atom_of value) refl
  where
    by_kind : (atom : Atom) → atom_of value ≡ Some atom → (of : Bool) → is_of_kind ends.kind atom ≡ of → (if of then Some (Some atom) else None) ≡ None
    by_kind atom given true kind = absurd (other (inr (atom, ends, given, found, kind)))
    by_kind atom given false kind = refl

    by_null : (blank : Bool) → is_null value ≡ blank → (atom : Option Atom) → atom_of value ≡ atom
        → (if blank then Some None else option_and_then (spec.cell_with ends.kind) atom) ≡ None
    by_null true is atom given = absurd (other (inl (is, refl)))
    by_null false is None given = refl
    by_null false is (Some atom) given = by_kind atom given (is_of_kind ends.kind atom) refl

-- where no cells are given, one is another
cells_fail : (C : Signature) (form : InstanceForm) → spec.cells_of C form.cells ≡ None → HasOtherCell C form
cells_fail C form none =
    let gap = one_gives_nothing (λ list. list) (map_in (spec.cells_at form.cells) 0 C.attributes) none in
    let from = from_place (spec.cells_at form.cells) 0 C.attributes gap.0 gap.1 gap.2 in
    let list : all_some (spec.cell_of from.0.kind) (list_at form.cells gap.0) ≡ None = rw zero-add at from.2 ∙ gap.3 in
    let one = one_gives_nothing (spec.cell_of from.0.kind) (list_at form.cells gap.0) list in
    (gap.0, from.0, one.0, one.1, from.1, one.2, no_cell_of C gap.0 from.0 one.1 from.1 one.3)

-- where they are given, none is
cells_pass : (C : Signature) (form : InstanceForm) (cells : List (List (Option Atom))) → spec.cells_of C form.cells ≡ Some cells → HasOtherCell C form → ⊥
cells_pass C form cells so other =
    all_give (spec.cell_of other.1.kind) (list_at form.cells other.0) (list_at cells other.0) other.2 other.3 (cells_at C form.cells cells so other.0 other.1 other.4) other.5
    (a_cell_of C other.0 other.1 other.3 other.4 other.6)

-- ---- equations

-- the first failure of the equations of a document is one at a part
stands_at : (C : Signature) (parts : List ℕ) (X : Instance) (list place code : ℕ)
    → IsFirstOfLists no_code (λ place. no_code) (EquationFailsAt C parts X) list place code → EquationFailsAt C parts X list place 10
stands_at C parts X list place code (inl own) = absurd own.2.stands
stands_at C parts X list place code (inr lists) = in_list lists.1.fault
  where
    in_list : IsFirstOfList no_code (EquationFailsAt C parts X list) place code → EquationFailsAt C parts X list place 10
    in_list (inl own) = absurd own.1.stands
    in_list (inr entries) = (refl, entries.1.entry.stands.1)

-- what is told where the equations are read
abbrev IsFailure : Signature → List ℕ → Instance → DocFault → Type 0
IsFailure C parts X fault = (fault ≡ fault_at fault.code sections.Equation fault.first fault.second)
    × IsFirstOfLists no_code (λ place. no_code) (EquationFailsAt C parts X) fault.first fault.second fault.code

-- where an equation fails, it does at a part
one_failure : (C : Signature) (form : InstanceForm) (cells : List (List (Option Atom))) (fault : Option TableFault) → spec.cells_of C form.cells ≡ Some cells
    → equation_fault C (rows_of form.parts form.rows cells) ≡ fault → is_none fault ≡ false → HasFailure C form
one_failure C form cells None so is fails = let never : ⊥ = cc in absurd never
one_failure C form cells (Some fault) so is fails =
    let rows = rows_of form.parts form.rows cells in
    let X = instance_of C rows in
    let read = failure_read C rows fault is in
    let first = told (AreClear no_code (λ place. no_code) (EquationFailsAt C form.parts X)) (IsFailure C form.parts X) (with_equations C rows) read.0
    (failures_first C form.parts form.rows cells) read.1 in
    (cells, read.0.first, read.0.second, so, stands_at C form.parts X read.0.first read.0.second read.0.code first.1)

-- where none fails, none does at a part
no_failure : (C : Signature) (form : InstanceForm) (cells : List (List (Option Atom))) → spec.cells_of C form.cells ≡ Some cells
    → is_none (equation_fault C (rows_of form.parts form.rows cells)) ≡ true → HasFailure C form → ⊥
no_failure C form cells so passes failure =
    let rows = rows_of form.parts form.rows cells in
    let X = instance_of C rows in
    let table : Tabled = record { signature = C; rows = rows } in
    let none : equation_fault C rows ≡ None = none_is (equation_fault C rows) passes in
    let clear = told_clear (AreClear no_code (λ place. no_code) (EquationFailsAt C form.parts X)) (IsFailure C form.parts X) (with_equations C rows) table
    (failures_first C form.parts form.rows cells) (equations_hold C rows none) in
    let same : failure.0 ≡ cells = same_Some failure.0 cells (sym failure.3 ∙ so) in
    (clear.lists failure.1).entries failure.2 10
    (subst (λ cells. EquationFailsAt C form.parts (instance_of C (rows_of form.parts form.rows cells)) failure.1 failure.2 10) same failure.4)

-- ---- the whole

-- an instance of a piece tells its least code
pub instances_tell : InstancesTellLeast
instances_tell C piece value =
    let at = fault_in piece in
    let lengths = IsFormWith value (HasOtherLength C) in
    let limits = IsFormWith value IsPastLimits in
    let images = IsFormWith value (HasStrayImage C) in
    let cells = IsFormWith value (HasOtherCell C) in
    let failure = IsFormWith value (HasFailure C) in
    told_in_piece piece (InstanceHas C value) (spec.read_instance C piece value)
    (tells_some 2 (spec.form_of value ≡ None) (or_code 2 lengths (or_code 4 limits (or_code 8 images (or_code 9 cells (only_code 10 failure))))) at (spec.form_of value) _
    (λ code has. omega (arith, has)) (λ none. none) (λ form is none. never_both (spec.form_of value) form is none)
    (λ form written. tells_checked 2 lengths (or_code 4 limits (or_code 8 images (or_code 9 cells (only_code 10 failure)))) at (spec.has_lengths C form) _ (λ code has. omega (arith, has))
    (λ fails. (form, written, lengths_fail C form fails))
    (λ passes holds. lengths_pass C form passes (form_is value form (HasOtherLength C) written holds))
    (λ long. tells_checked 4 limits (or_code 8 images (or_code 9 cells (only_code 10 failure))) at (spec.is_in_limits form) _ (λ code has. omega (arith, has))
    (λ fails. (form, written, limits_fail form fails))
    (λ passes holds. limits_pass form passes (form_is value form IsPastLimits written holds))
    (λ within. tells_checked 8 images (or_code 9 cells (only_code 10 failure)) at (all_in (spec.has_images form.parts form.rows) 0 C.arrows) _ (λ code has. omega (arith, has))
    (λ fails. (form, written, images_fail C form fails))
    (λ passes holds. images_pass C form passes (form_is value form (HasStrayImage C) written holds))
    (λ there. tells_some 9 cells (only_code 10 failure) at (spec.cells_of C form.cells) _ (λ code has. omega (arith, has.0))
    (λ none. (form, written, cells_fail C form none))
    (λ given so holds. cells_pass C form given so (form_is value form (HasOtherCell C) written holds))
    (λ given so.
    let fault = equation_fault C (rows_of form.parts form.rows given) in
    let table : Tabled = record { signature = C; rows = rows_of form.parts form.rows given } in
    tells_alone 10 failure at (checked (at 10) (is_none fault) (Ok table))
    (tells_checked 10 failure no_code at (is_none fault) (Ok table) (λ code has. absurd has)
    (λ fails. (form, written, one_failure C form given fault so refl fails))
    (λ passes holds. no_failure C form given so passes (form_is value form (HasFailure C) written holds))
    (λ passes code never. never))))))))
