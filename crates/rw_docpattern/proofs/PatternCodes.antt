-- Readings of patterns tell the least code of their tables.
use Rattle.std.proofs.Common.{◌≡◌, ◌⊎◌, ◌≢◌, inl, inr, ◌≤◌, ◌&&◌, ℕ, Bool, true, false, nat_le, length, Option, Some, None, is_none, option_map, position, IsSomeAnd, Result, Ok, List, refl, sym, ◌∙◌, ap, arith}
use Rattle.std.specs.List.{Any, list_all}
use Rattle.std.specs.Str.{bytes_eq}
use Rattle.std.proofs.lemmas.Bool.{leb-false, leb-true}
use Rattle.rw_schema.specs.declared.atom.Kind.{Kind}
use Rattle.rw_schema.specs.declared.parts.AttrDef.{AttrDef}
use Rattle.rw_schema.specs.Presentation.{Presentation, signature_of}
use Rattle.rw_schema.specs.Signature.{Signature}
use Rattle.rw_pattern.specs.declared.cell.PatternCell.{PatternCell}
use Rattle.rw_pattern.specs.declared.cell.Want.{Want}
use Rattle.rw_pattern.specs.declared.cell.Want.TheVariants as wants
use Rattle.rw_pattern.specs.PatternFaults.{are_in_range, equation_fault, has_few_parts, has_shape, variable_fault}
use Rattle.rw_terms.specs.OpTables.{OpEntry}
use Rattle.rw_rule.specs.declared.set.SetCell.{SetCell}
use Rattle.rw_rule.specs.Sets.{set_again}
use Rattle.rw_doc.specs.declared.fault.DocFault.{DocFault}
use Rattle.rw_doc.specs.declared.piece.Piece.{Piece}
use Rattle.rw_doc.specs.Chain.{all_some, and_then, checked, some_or}
use Rattle.rw_doc.specs.Entries.{no_code}
use Rattle.rw_doc.specs.Pieces.{fault_in}
use Rattle.rw_docpattern.specs.declared.entry.Entry.{Entry}
use Rattle.rw_docpattern.specs.declared.entry.WrittenEntry.{WrittenEntry}
use Rattle.rw_docpattern.specs.declared.term.WrittenTerm.{WrittenTerm, WrittenTerm-F, fold-roll-WrittenTerm, ind-WrittenTerm, roll-WrittenTerm}
use Rattle.rw_docpattern.specs.Codes.{TellsLeast, row}
use Rattle.rw_docpattern.specs.Forms.{PatternForm, bare_keys, form_with, pattern_keys}
use Rattle.rw_docpattern.specs.Patterns.{PatternRead, are_parts_there, bare_lists, cell_of, entries_named, entry_named, fits_atom, is_form_within, is_on_part, lists_with, read_entries, want_of, want_step, with_entries}
use Rattle.rw_docpattern.specs.PatternCodes.{BreaksEquation, FirstBareFault, FirstPatternFault, FirstRightFault, FormHas, HasOperation, HasOtherAtom, HasOtherLengths, HasOtherName, HasOtherPart, HasOtherSet, HasOtherVariable, IsPastLimits, WantsHave, is_operation, operation_step}
use Rattle.rw_docpattern.specs.Sets.{are_sets, fits_left, sets_of, with_sets}
use Rattle.rw_docpattern.specs.Terms.{is_within_limits}
use Rattle.rw_docpattern.specs.Variables.{kinds_of, number_in, variables_of}
use Rattle.rw_docpattern.proofs.Codes.{IsFrom, from_none, from_row, here, past, tells_checked, tells_checked_then, tells_none, tells_some, tells_some_then}
use Rattle.rw_docpattern.proofs.Somewhere.{any_fails, any_given, any_missing, any_so, any_source, any_with, any_without, none_fails, none_missing}

-- two of three tests passed: one of them failed
one_of_three : (first second third : Bool) → (first && second && third) ≡ false → (first ≡ false) ⊎ (second ≡ false) ⊎ (third ≡ false)
one_of_three false second third fails = inl refl
one_of_three true false third fails = inr (inl refl)
one_of_three true true third fails = inr (inr fails)

-- one of two tests failed
one_of_two : (first second : Bool) → (first && second) ≡ false → (first ≡ false) ⊎ (second ≡ false)
one_of_two false second fails = inl refl
one_of_two true second fails = inr fails

-- a test that passed with others did not fail
never_both : (test : Bool) → test ≡ true → test ≡ false → ⊥
never_both true passes fails = cc
never_both false passes fails = cc

-- limits that are passed
limits_fail : (C : Signature) (form : PatternForm) → is_form_within C form ≡ false → IsPastLimits C form
limits_fail C form fails =
    let within : WrittenEntry → Bool = λ entry. is_within_limits entry.term in
    elim (one_of_three (has_few_parts (bare_lists C form)) (nat_le (length form.entries) 256) (list_all within form.entries) fails) [
      | inl many ↦ inl many
      | inr rest ↦ elim rest [ inl long ↦ inr (inl (leb-false (length form.entries) 256 long)) | inr deep ↦ inr (inr (any_fails within form.entries deep)) ]
    ]

-- three tests that passed together
all_three : (first second third : Bool) → (first && second && third) ≡ true → (first ≡ true) × (second ≡ true) × (third ≡ true)
all_three true true third passes = (refl, refl, passes)
all_three true false third passes = cc
all_three false second third passes = cc

-- two tests that passed together
all_two : (first second : Bool) → (first && second) ≡ true → (first ≡ true) × (second ≡ true)
all_two true second passes = (refl, passes)
all_two false second passes = cc

-- limits that are kept
limits_pass : (C : Signature) (form : PatternForm) → is_form_within C form ≡ true → IsPastLimits C form → ⊥
limits_pass C form passes past =
    let within : WrittenEntry → Bool = λ entry. is_within_limits entry.term in
    let parts = all_three (has_few_parts (bare_lists C form)) (nat_le (length form.entries) 256) (list_all within form.entries) passes in
    elim past [
      | inl many ↦ never_both (has_few_parts (bare_lists C form)) parts.0 many
      | inr rest ↦ elim rest [ inl long ↦ (let few : length form.entries ≤ 256 = leb-true (length form.entries) 256 parts.1 in omega arith) | inr deep ↦ none_fails within form.entries parts.2 deep ]
    ]

-- a part that is not there
parts_fail : (schema : Presentation) (form : PatternForm) (entries : List Entry) → entries_named schema.attributes form.entries ≡ Some entries
    → are_parts_there (signature_of schema) form entries ≡ false → HasOtherPart schema form
parts_fail schema form entries named fails =
    let lists = bare_lists (signature_of schema) form in
    elim (one_of_two (are_in_range (signature_of schema) lists) (list_all (is_on_part lists) entries) fails) [
      | inl beyond ↦ inl beyond
      | inr off ↦ inr (any_with (entry_named schema.attributes) (λ entry. is_on_part lists entry ≡ false) form.entries entries named (any_fails (is_on_part lists) entries off))
    ]

-- parts that are there
parts_pass : (schema : Presentation) (form : PatternForm) (entries : List Entry) → entries_named schema.attributes form.entries ≡ Some entries
    → are_parts_there (signature_of schema) form entries ≡ true → HasOtherPart schema form → ⊥
parts_pass schema form entries named passes other =
    let lists = bare_lists (signature_of schema) form in
    let parts = all_two (are_in_range (signature_of schema) lists) (list_all (is_on_part lists) entries) passes in
    elim other [
      | inl beyond ↦ never_both (are_in_range (signature_of schema) lists) parts.0 beyond
      | inr off ↦ none_fails (is_on_part lists) entries parts.1 (any_without (entry_named schema.attributes) (λ entry. is_on_part lists entry ≡ false) form.entries entries named off)
    ]

-- something is there where a test for nothing fails
some_there : {A : Type 0} (found : Option A) → is_none found ≡ false → found ≢ None
some_there None fails none = cc
some_there (Some x) fails none = cc

-- nothing is there where the test for it passes
none_there : {A : Type 0} (found : Option A) → is_none found ≡ true → (found ≢ None) → ⊥
none_there None passes some = some refl
none_there (Some x) passes some = cc

-- the rows of entries, and then those of what comes after; each local name is that of a row with all rows behind it
entries_tell : {B : Type 0} (schema : Presentation) (piece : Piece) (form : PatternForm) (Others : ℕ → Type 0) (last : List Entry → Result B DocFault) → IsFrom 10 Others
    → ((entries : List Entry) → entries_named schema.attributes form.entries ≡ Some entries → TellsLeast piece Others (last entries))
    → TellsLeast piece (row 4 (IsPastLimits (signature_of schema) form) (row 6 (HasOtherName schema.attributes form) (row 8 (HasOtherPart schema form)
    (row 9 (HasOtherAtom schema form) (row 10 (BreaksEquation (signature_of schema) form) Others))))) (and_then (read_entries schema piece form) last)
entries_tell schema piece form Others last from later =
    let C : Signature = signature_of schema in
    let Equations : ℕ → Type 0 = row 10 (BreaksEquation C form) Others in
    let Atoms : ℕ → Type 0 = row 9 (HasOtherAtom schema form) Equations in
    let Parts : ℕ → Type 0 = row 8 (HasOtherPart schema form) Atoms in
    let Names : ℕ → Type 0 = row 6 (HasOtherName schema.attributes form) Parts in
    let equations_from : IsFrom 10 Equations = from_row 10 10 (BreaksEquation C form) Others (omega arith) from in
    let atoms_from : IsFrom 9 Atoms = from_row 9 10 (HasOtherAtom schema form) Equations (omega arith) equations_from in
    let parts_from : IsFrom 8 Parts = from_row 8 9 (HasOtherPart schema form) Atoms (omega arith) atoms_from in
    let names_from : IsFrom 6 Names = from_row 6 8 (HasOtherName schema.attributes form) Parts (omega arith) parts_from in
    tells_checked_then piece 4 6 (IsPastLimits C form) Names (is_form_within C form) _ last (omega arith) names_from (limits_fail C form) (limits_pass C form)
    (λ within. tells_some_then piece 6 8 (HasOtherName schema.attributes form) Parts (entries_named schema.attributes form.entries) _ last (omega arith) parts_from
    (any_missing (entry_named schema.attributes) form.entries) (none_missing (entry_named schema.attributes) form.entries)
    (λ entries named. tells_checked_then piece 8 9 (HasOtherPart schema form) Atoms (are_parts_there C form entries) _ last (omega arith) atoms_from
    (parts_fail schema form entries named) (parts_pass schema form entries named)
    (λ there. tells_checked_then piece 9 10 (HasOtherAtom schema form) Equations (list_all (fits_atom C) entries) _ last (omega arith) equations_from
    (λ fails. any_with (entry_named schema.attributes) (λ entry. fits_atom C entry ≡ false) form.entries entries named (any_fails (fits_atom C) entries fails))
    (λ passes other. none_fails (fits_atom C) entries passes (any_without (entry_named schema.attributes) (λ entry. fits_atom C entry ≡ false) form.entries entries named other))
    (λ fit. tells_checked_then piece 10 10 (BreaksEquation C form) Others (is_none (equation_fault C (bare_lists C form))) (Ok entries) last (omega arith) from
    (some_there (equation_fault C (bare_lists C form))) (none_there (equation_fault C (bare_lists C form)))
    (λ equal. later entries named)))))

-- no row of a pattern's table is below 4 where its form is right
from_form : (schema : Presentation) (found : Option PatternForm) (Others : ℕ → Type 0) → IsFrom 10 Others
    → IsFrom 4 (row 4 (IsSomeAnd found (IsPastLimits (signature_of schema))) (row 6 (IsSomeAnd found (HasOtherName schema.attributes)) (row 8 (IsSomeAnd found (HasOtherPart schema))
    (row 9 (IsSomeAnd found (HasOtherAtom schema)) (row 10 (IsSomeAnd found (BreaksEquation (signature_of schema))) Others)))))
from_form schema found Others from =
    let Equations : ℕ → Type 0 = row 10 (IsSomeAnd found (BreaksEquation (signature_of schema))) Others in
    let Atoms : ℕ → Type 0 = row 9 (IsSomeAnd found (HasOtherAtom schema)) Equations in
    let Parts : ℕ → Type 0 = row 8 (IsSomeAnd found (HasOtherPart schema)) Atoms in
    let Names : ℕ → Type 0 = row 6 (IsSomeAnd found (HasOtherName schema.attributes)) Parts in
    let equations_from : IsFrom 10 Equations = from_row 10 10 (IsSomeAnd found (BreaksEquation (signature_of schema))) Others (omega arith) from in
    let atoms_from : IsFrom 9 Atoms = from_row 9 10 (IsSomeAnd found (HasOtherAtom schema)) Equations (omega arith) equations_from in
    let parts_from : IsFrom 8 Parts = from_row 8 9 (IsSomeAnd found (HasOtherPart schema)) Atoms (omega arith) atoms_from in
    let names_from : IsFrom 6 Names = from_row 6 8 (IsSomeAnd found (HasOtherName schema.attributes)) Parts (omega arith) parts_from in
    from_row 4 6 (IsSomeAnd found (IsPastLimits (signature_of schema))) Names (omega arith) names_from

-- the rows of a pattern in this form, or in none, and then those of what comes after
form_tells : {B : Type 0} (schema : Presentation) (piece : Piece) (found : Option PatternForm) (Others : ℕ → Type 0) (last : PatternForm → List Entry → Result B DocFault) → IsFrom 10 Others
    → ((form : PatternForm) (entries : List Entry) → found ≡ Some form → entries_named schema.attributes form.entries ≡ Some entries → TellsLeast piece Others (last form entries))
    → TellsLeast piece (FormHas schema Others found)
    (and_then (and_then (some_or (fault_in piece 2) found) (λ form. checked (fault_in piece 2) (has_shape (signature_of schema) (bare_lists (signature_of schema) form)) (Ok form)))
    (λ form. and_then (read_entries schema piece form) (last form)))
form_tells schema piece None Others last from later =
    let Rest : ℕ → Type 0 = row 4 ⊥ (row 6 ⊥ (row 8 ⊥ (row 9 ⊥ (row 10 ⊥ Others)))) in
    here piece 2 2 (None ≡ None) (row 2 ⊥ Rest) (omega arith) (from_row 2 4 ⊥ Rest (omega arith) (from_form schema None Others from)) refl
form_tells schema piece (Some form) Others last from later =
    let C : Signature = signature_of schema in
    let Rest : ℕ → Type 0 = row 4 (IsPastLimits C form) (row 6 (HasOtherName schema.attributes form) (row 8 (HasOtherPart schema form)
    (row 9 (HasOtherAtom schema form) (row 10 (BreaksEquation C form) Others)))) in
    past piece 2 (Some form ≡ None) (row 2 (HasOtherLengths C form) Rest) _ (λ none. cc)
    (tells_checked_then piece 2 4 (HasOtherLengths C form) Rest (has_shape C (bare_lists C form)) (Ok form) (λ form. and_then (read_entries schema piece form) (last form))
    (omega arith) (from_form schema (Some form) Others from) (λ fails. fails) (never_both (has_shape C (bare_lists C form)))
    (λ right. entries_tell schema piece form Others (last form) from (λ entries named. later form entries refl named)))

-- kept patterns
pub bare_tells : FirstBareFault
bare_tells schema piece value =
    form_tells schema piece (form_with bare_keys value) no_code (λ form entries. Ok (bare_lists (signature_of schema) form)) (from_none 10)
    (λ form entries is named. tells_none piece (bare_lists (signature_of schema) form))

-- ---- left patterns

-- a term of which nothing is wanted is an operation
abbrev IsUnwanted : List (List ℕ) → WrittenTerm → Type 0
IsUnwanted variables term = want_of variables term ≡ None → is_operation term ≡ true

-- so is one level
level_unwanted : (variables : List (List ℕ)) (level : WrittenTerm-F WrittenTerm) → IsUnwanted variables (roll-WrittenTerm level)
level_unwanted variables (WrittenTerm-F.Const atom) none =
    let never : Some (wants.Const atom) ≡ None = sym (fold-roll-WrittenTerm (Option Want) (want_step variables) (WrittenTerm-F.Const atom)) ∙ none in cc
level_unwanted variables (WrittenTerm-F.Var name) none =
    let never : Some (wants.Var (number_in variables name)) ≡ None = sym (fold-roll-WrittenTerm (Option Want) (want_step variables) (WrittenTerm-F.Var name)) ∙ none in cc
level_unwanted variables (WrittenTerm-F.Op name first second) none = fold-roll-WrittenTerm Bool operation_step (WrittenTerm-F.Op name first second)

operation_unwanted : (variables : List (List ℕ)) (term : WrittenTerm) → IsUnwanted variables term
operation_unwanted variables = ind-WrittenTerm (IsUnwanted variables) (λ x y is. level_unwanted variables x)

-- nothing is wanted of an operation
abbrev IsWantless : List (List ℕ) → WrittenTerm → Type 0
IsWantless variables term = is_operation term ≡ true → want_of variables term ≡ None

-- so it is at one level
level_wantless : (variables : List (List ℕ)) (level : WrittenTerm-F WrittenTerm) → IsWantless variables (roll-WrittenTerm level)
level_wantless variables (WrittenTerm-F.Const atom) is =
    let never : false ≡ true = sym (fold-roll-WrittenTerm Bool operation_step (WrittenTerm-F.Const atom)) ∙ is in cc
level_wantless variables (WrittenTerm-F.Var name) is =
    let never : false ≡ true = sym (fold-roll-WrittenTerm Bool operation_step (WrittenTerm-F.Var name)) ∙ is in cc
level_wantless variables (WrittenTerm-F.Op name first second) is = fold-roll-WrittenTerm (Option Want) (want_step variables) (WrittenTerm-F.Op name first second)

unwanted_operation : (variables : List (List ℕ)) (term : WrittenTerm) → IsWantless variables term
unwanted_operation variables = ind-WrittenTerm (IsWantless variables) (λ x y is. level_wantless variables x)

-- nothing comes of nothing alone
none_of_none : {A B : Type 0} (f : A → B) (found : Option A) → option_map f found ≡ None → found ≡ None
none_of_none f None is = refl
none_of_none f (Some x) is = cc

-- what comes of nothing
none_mapped : {A B : Type 0} (f : A → B) (found : Option A) → found ≡ None → option_map f found ≡ None
none_mapped f None is = refl
none_mapped f (Some x) is = cc

-- an entry keeps its term on the attribute with a number
kept_at : (written : WrittenEntry) (found : Option ℕ) (entry : Entry)
    → option_map (λ (number : ℕ). record { attr = record { 0 = number }; part = written.part; term = written.term }) found ≡ Some entry → written.term ≡ entry.term
kept_at written None entry is = cc
kept_at written (Some number) entry is =
    let same : record { attr = record { 0 = number }; part = written.part; term = written.term } ≡ entry = cc in
    ap (λ (entry : Entry). entry.term) same

-- an entry keeps its term on the attribute with its name
term_kept : (attributes : List AttrDef) (written : WrittenEntry) (entry : Entry) → entry_named attributes written ≡ Some entry → written.term ≡ entry.term
term_kept attributes written entry is = kept_at written (position (λ (attribute : AttrDef). bytes_eq written.attribute attribute.name) attributes) entry is

-- an entry of which nothing is wanted has an operation
operation_fails : (schema : Presentation) (form : PatternForm) (entries : List Entry) → entries_named schema.attributes form.entries ≡ Some entries
    → all_some (cell_of (variables_of entries)) entries ≡ None → HasOperation form
operation_fails schema form entries named fails =
    let variables : List (List ℕ) = variables_of entries in
    let IsOperation : Entry → Type 0 = λ (entry : Entry). is_operation entry.term ≡ true in
    any_source (entry_named schema.attributes) (λ (written : WrittenEntry). is_operation written.term ≡ true) IsOperation form.entries entries
    (λ written entry is operation. rw (term_kept schema.attributes written entry is) operation) named
    (any_so (λ entry. cell_of variables entry ≡ None) IsOperation entries
    (λ entry none. operation_unwanted variables entry.term (none_of_none _ (want_of variables entry.term) none))
    (any_missing (cell_of variables) entries fails))

-- something is wanted of each entry where none has an operation
operation_passes : (schema : Presentation) (form : PatternForm) (entries : List Entry) (cells : List PatternCell) → entries_named schema.attributes form.entries ≡ Some entries
    → all_some (cell_of (variables_of entries)) entries ≡ Some cells → HasOperation form → ⊥
operation_passes schema form entries cells named given operation =
    let variables : List (List ℕ) = variables_of entries in
    let IsOperation : Entry → Type 0 = λ (entry : Entry). is_operation entry.term ≡ true in
    none_missing (cell_of variables) entries cells given
    (any_so IsOperation (λ entry. cell_of variables entry ≡ None) entries
    (λ entry is. none_mapped _ (want_of variables entry.term) (unwanted_operation variables entry.term is))
    (any_given (entry_named schema.attributes) (λ (written : WrittenEntry). is_operation written.term ≡ true) IsOperation form.entries entries
    (λ written entry is operation. rw (term_kept schema.attributes written entry is) at operation) named operation))

-- no row of what is wanted is below 14
from_wants : (schema : Presentation) (found : Option PatternForm) → IsFrom 10 (WantsHave schema found)
from_wants schema found other less (inl has) = let same : other ≡ 14 = has.0 in omega arith
from_wants schema found other less (inr (inl has)) = let same : other ≡ 14 = has.0 in omega arith
from_wants schema found other less (inr (inr has)) = has

-- what the entries of a pattern want
wants_tell : (schema : Presentation) (piece : Piece) (form : PatternForm) (entries : List Entry) → entries_named schema.attributes form.entries ≡ Some entries
    → TellsLeast piece (row 14 (HasOperation form) (row 14 (HasOtherVariable schema form) no_code)) (with_entries schema piece form entries)
wants_tell schema piece form entries named =
    let C : Signature = signature_of schema in
    let variables : List (List ℕ) = variables_of entries in
    let kinds : List Kind = kinds_of schema.attributes entries in
    let Last : ℕ → Type 0 = row 14 (HasOtherVariable schema form) no_code in
    tells_some piece 14 14 (HasOperation form) Last (all_some (cell_of variables) entries) _ (omega arith)
    (from_row 14 14 (HasOtherVariable schema form) no_code (omega arith) (from_none 14))
    (operation_fails schema form entries named) (λ cells given. operation_passes schema form entries cells named given)
    (λ cells given. tells_checked piece 14 14 (HasOtherVariable schema form) no_code (is_none (variable_fault C kinds (lists_with C form cells))) _ (omega arith) (from_none 14)
    (λ fails. rw (named, given) (some_there (variable_fault C kinds (lists_with C form cells)) fails))
    (λ passes other. none_there (variable_fault C kinds (lists_with C form cells)) passes (rw (named, given) at other))
    (λ passes code has. has))

-- left patterns, and those of watches
pub pattern_tells : FirstPatternFault
pattern_tells schema piece value =
    let found : Option PatternForm = form_with pattern_keys value in
    form_tells schema piece found (WantsHave schema found) (with_entries schema piece) (from_wants schema found)
    (λ form entries is named. rw is (wants_tell schema piece form entries named))

-- ---- right patterns

-- no row of what is set is below 14
from_sets : (Condition : Type 0) → IsFrom 10 (row 14 Condition no_code)
from_sets Condition other less (inl has) = let same : other ≡ 14 = has.0 in omega arith
from_sets Condition other less (inr has) = has

-- a set that does not fit, or one on a cell that another is on
sets_fail : (C : Signature) (ops : List OpEntry) (left : PatternRead) (sets : List SetCell) → are_sets C ops left sets ≡ false
    → Any (λ set. fits_left C ops left set ≡ false) sets ⊎ (set_again sets ≢ None)
sets_fail C ops left sets fails = elim (one_of_two (list_all (fits_left C ops left) sets) (is_none (set_again sets)) fails) [
  | inl other ↦ inl (any_fails (fits_left C ops left) sets other)
  | inr again ↦ inr (some_there (set_again sets) again)
]

-- sets that fit, each on a cell of its own
sets_pass : (C : Signature) (ops : List OpEntry) (left : PatternRead) (sets : List SetCell) → are_sets C ops left sets ≡ true
    → Any (λ set. fits_left C ops left set ≡ false) sets ⊎ (set_again sets ≢ None) → ⊥
sets_pass C ops left sets passes other =
    let parts = all_two (list_all (fits_left C ops left) sets) (is_none (set_again sets)) passes in
    elim other [ inl bad ↦ none_fails (fits_left C ops left) sets parts.0 bad | inr again ↦ none_there (set_again sets) parts.1 again ]

-- the right patterns of rules
pub right_tells : FirstRightFault
right_tells schema ops piece left value =
    let C : Signature = signature_of schema in
    let found : Option PatternForm = form_with pattern_keys value in
    form_tells schema piece found (row 14 (IsSomeAnd found (HasOtherSet schema ops left)) no_code) (λ form entries. with_sets schema ops piece left form (sets_of ops left.variables entries))
    (from_sets (IsSomeAnd found (HasOtherSet schema ops left)))
    (λ form entries is named.
    let sets : List SetCell = sets_of ops left.variables entries in
    tells_checked piece 14 14 (IsSomeAnd found (HasOtherSet schema ops left)) no_code (are_sets C ops left sets) _ (omega arith) (from_none 14)
    (λ fails. rw (is, named) (sets_fail C ops left sets fails))
    (λ passes other. sets_pass C ops left sets passes (rw (is, named) at other))
    (λ passes code has. has))
