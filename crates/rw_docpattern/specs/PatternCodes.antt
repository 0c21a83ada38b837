-- What may be wrong with the pattern that a value is, by the codes of docs/FORMAT.md, and the law that a reading tells the least.
use Rattle.std.specs.Prelude.{◌≡◌, ◌<◌, ◌⊎◌, ◌≢◌, ℕ, Bool, true, false, Any, length, List, Option, None, IsSomeAnd}
use Rattle.serde_json.specs.Data.{Data}
use Rattle.rw_schema.specs.declared.parts.AttrDef.{AttrDef}
use Rattle.rw_schema.specs.Presentation.{Presentation, signature_of}
use Rattle.rw_schema.specs.Signature.{Signature}
use Rattle.rw_pattern.specs.PatternFaults.{has_shape, has_few_parts, are_in_range, equation_fault, variable_fault}
use Rattle.rw_terms.specs.OpTables.{OpEntry}
use Rattle.rw_rule.specs.Sets.{set_again}
use Rattle.rw_doc.specs.Chain.{all_some}
use Rattle.rw_doc.specs.Entries.{no_code}
use Rattle.rw_doc.specs.declared.piece.Piece.{Piece}
use Rattle.rw_docpattern.specs.declared.entry.Entry.{Entry}
use Rattle.rw_docpattern.specs.declared.entry.WrittenEntry.{WrittenEntry}
use Rattle.rw_docpattern.specs.declared.term.WrittenTerm.{WrittenTerm, fold-WrittenTerm}
use Rattle.rw_docpattern.specs.declared.term.WrittenTerm.TheOpen.{WrittenTerm-F}
use Rattle.rw_docpattern.specs.Codes.{TellsLeast, row}
use Rattle.rw_docpattern.specs.Forms.{PatternForm, bare_keys, form_with, pattern_keys}
use Rattle.rw_docpattern.specs.Patterns.{PatternRead, bare_lists, entries_named, entry_named, cell_of, fits_atom, is_on_part, lists_with, read_bare_pattern, read_pattern}
use Rattle.rw_docpattern.specs.Sets.{fits_left, read_right, sets_of}
use Rattle.rw_docpattern.specs.Terms.{is_within_limits}
use Rattle.rw_docpattern.specs.Variables.{kinds_of, variables_of}

-- ---- what patterns of all sides have in common

-- a list has not one number for each object, one row for each arrow, or one image for each part
abbrev pub HasOtherLengths : Signature → PatternForm → Type 0
HasOtherLengths C form = has_shape C (bare_lists C form) ≡ false

-- there are more than 64 parts or more than 256 entries, or a term is past its limits
abbrev pub IsPastLimits : Signature → PatternForm → Type 0
IsPastLimits C form = (has_few_parts (bare_lists C form) ≡ false) ⊎ (256 < length form.entries)
    ⊎ Any (λ (entry : WrittenEntry). is_within_limits entry.term ≡ false) form.entries

-- an entry is on an attribute that is not there
abbrev pub HasOtherName : List AttrDef → PatternForm → Type 0
HasOtherName attributes form = Any (λ entry. entry_named attributes entry ≡ None) form.entries

-- of an entry, on the attribute with its name, this holds
abbrev pub HasEntry : List AttrDef → PatternForm → (Entry → Type 0) → Type 0
HasEntry attributes form P = Any (λ entry. IsSomeAnd (entry_named attributes entry) P) form.entries

-- an image is no part of the object that it has to be of, or an entry is on no part of its attribute's object
abbrev pub HasOtherPart : Presentation → PatternForm → Type 0
HasOtherPart schema form = (are_in_range (signature_of schema) (bare_lists (signature_of schema) form) ≡ false)
    ⊎ HasEntry schema.attributes form (λ entry. is_on_part (bare_lists (signature_of schema) form) entry ≡ false)

-- an atom that is an entry's whole term is of another kind than the attribute
abbrev pub HasOtherAtom : Presentation → PatternForm → Type 0
HasOtherAtom schema form = HasEntry schema.attributes form (λ entry. fits_atom (signature_of schema) entry ≡ false)

-- the two paths of an equation lead from a part to different parts
abbrev pub BreaksEquation : Signature → PatternForm → Type 0
BreaksEquation C form = equation_fault C (bare_lists C form) ≢ None

-- what may be wrong with a pattern of any side, by the form in which it is written, and what else may be
abbrev pub FormHas : Presentation → (ℕ → Type 0) → Option PatternForm → ℕ → Type 0
FormHas schema Others form =
    row 2 (form ≡ None)
    (row 2 (IsSomeAnd form (HasOtherLengths (signature_of schema)))
    (row 4 (IsSomeAnd form (IsPastLimits (signature_of schema)))
    (row 6 (IsSomeAnd form (HasOtherName schema.attributes))
    (row 8 (IsSomeAnd form (HasOtherPart schema))
    (row 9 (IsSomeAnd form (HasOtherAtom schema))
    (row 10 (IsSomeAnd form (BreaksEquation (signature_of schema)))
    Others))))))

-- ---- kept patterns

-- what may be wrong with a kept pattern, which has no entries
abbrev pub BareHas : Presentation → Data → ℕ → Type 0
BareHas schema value = FormHas schema no_code (form_with bare_keys value)

abbrev pub FirstBareFault : Type 0
FirstBareFault = (schema : Presentation) (piece : Piece) (value : Data) → TellsLeast piece (BareHas schema value) (read_bare_pattern schema piece value)

-- ---- left patterns, and those of watches

-- one level of a term
abbrev pub operation_step : WrittenTerm-F Bool → Bool
operation_step (WrittenTerm-F.Const atom) = false
operation_step (WrittenTerm-F.Var name) = false
operation_step (WrittenTerm-F.Op name first second) = true

-- the term is an operation
abbrev pub is_operation : WrittenTerm → Bool
is_operation = fold-WrittenTerm Bool operation_step

-- an entry's term is an operation
abbrev pub HasOperation : PatternForm → Type 0
HasOperation form = Any (λ (entry : WrittenEntry). is_operation entry.term ≡ true) form.entries

-- an entry's variable is of another kind than the attribute where it first stands
abbrev pub HasOtherVariable : Presentation → PatternForm → Type 0
HasOtherVariable schema form = IsSomeAnd (entries_named schema.attributes form.entries) (λ entries. IsSomeAnd (all_some (cell_of (variables_of entries)) entries)
    (λ cells. variable_fault (signature_of schema) (kinds_of schema.attributes entries) (lists_with (signature_of schema) form cells) ≢ None))

-- what else may be wrong with a left pattern, or one of a watch
abbrev pub WantsHave : Presentation → Option PatternForm → ℕ → Type 0
WantsHave schema form = row 14 (IsSomeAnd form HasOperation) (row 14 (IsSomeAnd form (HasOtherVariable schema)) no_code)

-- what may be wrong with a left pattern, or one of a watch
abbrev pub PatternHas : Presentation → Data → ℕ → Type 0
PatternHas schema value = FormHas schema (WantsHave schema (form_with pattern_keys value)) (form_with pattern_keys value)

abbrev pub FirstPatternFault : Type 0
FirstPatternFault = (schema : Presentation) (piece : Piece) (value : Data) → TellsLeast piece (PatternHas schema value) (read_pattern schema piece value)

-- ---- right patterns

-- a set has a variable that is on no cell of the left pattern, or its term is not of the attribute's kind; or a cell is set twice
abbrev pub HasOtherSet : Presentation → List OpEntry → PatternRead → PatternForm → Type 0
HasOtherSet schema ops left form = IsSomeAnd (entries_named schema.attributes form.entries)
    (λ entries. Any (λ set. fits_left (signature_of schema) ops left set ≡ false) (sets_of ops left.variables entries) ⊎ (set_again (sets_of ops left.variables entries) ≢ None))

-- what may be wrong with the right pattern of a rule with this left one
abbrev pub RightHas : Presentation → List OpEntry → PatternRead → Data → ℕ → Type 0
RightHas schema ops left value =
    FormHas schema (row 14 (IsSomeAnd (form_with pattern_keys value) (HasOtherSet schema ops left)) no_code) (form_with pattern_keys value)

abbrev pub FirstRightFault : Type 0
FirstRightFault = (schema : Presentation) (ops : List OpEntry) (piece : Piece) (left : PatternRead) (value : Data)
    → TellsLeast piece (RightHas schema ops left value) (read_right schema ops piece left value)
