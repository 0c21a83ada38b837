-- Readings that go on from a draft.
use Rattle.std.proofs.Common.{◌≡◌, ℕ, Bool, true, false, Option, Some, None, Result, Ok, Err, List, refl}
use Rattle.serde_json.specs.Data.{Data}
use Rattle.rw_schema.specs.Presentation.{Presentation, signature_of}
use Rattle.rw_terms.specs.OpTables.{OpEntry}
use Rattle.rw_pattern.specs.PatternFaults.{has_shape}
use Rattle.rw_pattern.specs.PatternLists.{PatternLists}
use Rattle.rw_doc.specs.declared.fault.DocFault.{DocFault}
use Rattle.rw_doc.specs.Chain.{and_then, checked, some_or}
use Rattle.rw_docpattern.specs.declared.entry.Entry.{Entry}
use Rattle.rw_doc.specs.declared.piece.Piece.{Piece}
use Rattle.rw_docpattern.specs.Drafts.{Draft, draft_of, pattern_with, read_draft}
use Rattle.rw_docpattern.specs.Forms.{PatternForm, bare_keys, form_with, pattern_keys}
use Rattle.rw_docpattern.specs.Patterns.{PatternRead, bare_lists, read_bare_pattern, read_entries, read_form, read_pattern}
use Rattle.rw_doc.specs.Pieces.{fault_in}
use Rattle.rw_docpattern.specs.Rights.{right_with}
use Rattle.rw_docpattern.specs.Sets.{read_right}

-- what comes behind a reading of entries
behind : {B : Type 0} (bare : PatternLists) (read : Result (List Entry) DocFault) (next : PatternLists → List Entry → Result B DocFault)
    → and_then read (next bare) ≡ and_then (and_then read (λ entries. Ok (record { bare = bare; entries = entries }))) (λ (draft : Draft). next draft.bare draft.entries)
behind bare (Ok entries) next = refl
behind bare (Err fault) next = refl

-- what comes behind a test of a form, and a reading of its entries
behind_test : {B : Type 0} (fault : DocFault) (shape : Bool) (form : PatternForm) (bare : PatternForm → PatternLists) (read : PatternForm → Result (List Entry) DocFault)
    (next : PatternLists → List Entry → Result B DocFault)
    → and_then (checked fault shape (Ok form)) (λ form. and_then (read form) (next (bare form)))
    ≡ and_then (checked fault shape (and_then (read form) (λ entries. Ok (record { bare = bare form; entries = entries })))) (λ (draft : Draft). next draft.bare draft.entries)
behind_test fault false form bare read next = refl
behind_test fault true form bare read next = behind (bare form) (read form) next

-- what comes behind a form, where one is there
behind_form : {B : Type 0} (schema : Presentation) (piece : Piece) (form : Option PatternForm) (next : PatternLists → List Entry → Result B DocFault)
    → and_then (and_then (some_or (fault_in piece 2) form) (λ form. checked (fault_in piece 2) (has_shape (signature_of schema) (bare_lists (signature_of schema) form)) (Ok form)))
    (λ form. and_then (read_entries schema piece form) (next (bare_lists (signature_of schema) form)))
    ≡ and_then (and_then (some_or (fault_in piece 2) form) (draft_of schema piece)) (λ (draft : Draft). next draft.bare draft.entries)
behind_form schema piece None next = refl
behind_form schema piece (Some form) next =
    behind_test (fault_in piece 2) (has_shape (signature_of schema) (bare_lists (signature_of schema) form)) form (bare_lists (signature_of schema)) (read_entries schema piece) next

-- what comes behind the form and the entries of a pattern comes behind its draft
by_draft : {B : Type 0} (schema : Presentation) (piece : Piece) (keys : List (List ℕ)) (value : Data) (next : PatternLists → List Entry → Result B DocFault)
    → and_then (read_form (signature_of schema) piece keys value) (λ form. and_then (read_entries schema piece form) (next (bare_lists (signature_of schema) form)))
    ≡ and_then (read_draft schema piece keys value) (λ (draft : Draft). next draft.bare draft.entries)
by_draft schema piece keys value next = behind_form schema piece (form_with keys value) next

-- a pattern without entries is that of its draft
pub bare_by_draft : (schema : Presentation) (piece : Piece) (value : Data)
    → read_bare_pattern schema piece value ≡ and_then (read_draft schema piece bare_keys value) (λ (draft : Draft). Ok draft.bare)
bare_by_draft schema piece value = by_draft schema piece bare_keys value (λ bare entries. Ok bare)

-- a pattern with entries is made of its draft
pub pattern_by_draft : (schema : Presentation) (piece : Piece) (value : Data)
    → read_pattern schema piece value ≡ and_then (read_draft schema piece pattern_keys value) (λ (draft : Draft). pattern_with schema piece draft.bare draft.entries)
pattern_by_draft schema piece value = by_draft schema piece pattern_keys value (pattern_with schema piece)

-- a right pattern is made of its draft
pub right_by_draft : (schema : Presentation) (ops : List OpEntry) (piece : Piece) (left : PatternRead) (value : Data)
    → read_right schema ops piece left value ≡ and_then (read_draft schema piece pattern_keys value) (λ (draft : Draft). right_with schema ops piece left draft.bare draft.entries)
right_by_draft schema ops piece left value = by_draft schema piece pattern_keys value (right_with schema ops piece left)
