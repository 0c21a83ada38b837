-- Patterns without their entries, beside the entries.
use Rattle.std.specs.Prelude.{◌≡◌, ◌<◌, ◌≤◌, ℕ, Bool, true, ◌&&◌, nat_le, is_none, length, All, List, [], Result, Ok}
use Rattle.std.specs.List.{list_all}
use Rattle.serde_json.specs.Data.{Data}
use Rattle.rw_schema.specs.declared.atom.Kind.{Kind}
use Rattle.rw_schema.specs.Presentation.{Presentation, signature_of}
use Rattle.rw_schema.specs.Signature.{Signature}
use Rattle.rw_pattern.specs.declared.cell.PatternCell.{PatternCell}
use Rattle.rw_pattern.specs.PatternFaults.{has_shape, variable_fault, IsPatternOver}
use Rattle.rw_pattern.specs.PatternLists.{PatternLists}
use Rattle.rw_doc.specs.declared.fault.DocFault.{DocFault}
use Rattle.rw_doc.specs.Chain.{and_then, all_some, some_or, checked}
use Rattle.rw_docpattern.specs.declared.draft.Draft as code
use Rattle.rw_docpattern.specs.declared.entry.Entry.{Entry}
use Rattle.rw_docpattern.specs.declared.entry.WrittenEntry.{WrittenEntry}
use Rattle.rw_doc.specs.declared.piece.Piece.{Piece}
use Rattle.rw_docpattern.specs.Forms.{PatternForm, form_with}
use Rattle.rw_docpattern.specs.Patterns.{PatternRead, bare_lists, cell_of, entries_named, fits_atom, is_on_part, read_entries}
use Rattle.rw_doc.specs.Pieces.{fault_in}
use Rattle.rw_docpattern.specs.Terms.{is_within_limits}
use Rattle.rw_docpattern.specs.Variables.{kinds_of, variables_of}

-- a pattern without its entries, and the entries
pub record Draft : Type 0 where
  pub bare : PatternLists
  pub entries : List Entry

abbrev pub draft_seen : code.Draft → Draft
draft_seen draft = record { bare = draft.bare; entries = draft.entries.items }

-- the entries of these lists, of which it is known whether the parts are few and each image is there, up to code 9
abbrev pub entries_of : Presentation → Piece → Bool → Bool → PatternLists → List WrittenEntry → Result (List Entry) DocFault
entries_of schema piece few in_range lists written =
    checked (fault_in piece 4) (few && nat_le (length written) 256 && list_all (λ (entry : WrittenEntry). is_within_limits entry.term) written)
    (and_then (some_or (fault_in piece 6) (entries_named schema.attributes written)) (λ entries.
    checked (fault_in piece 8) (in_range && list_all (is_on_part lists) entries)
    (checked (fault_in piece 9) (list_all (fits_atom (signature_of schema)) entries) (Ok entries))))

-- what is written, where nothing is wrong with it but what may stand in a term
abbrev pub draft_of : Presentation → Piece → PatternForm → Result Draft DocFault
draft_of schema piece form =
    checked (fault_in piece 2) (has_shape (signature_of schema) (bare_lists (signature_of schema) form))
    (and_then (read_entries schema piece form) (λ entries. Ok (record { bare = bare_lists (signature_of schema) form; entries = entries })))

abbrev pub read_draft : Presentation → Piece → List (List ℕ) → Data → Result Draft DocFault
read_draft schema piece keys value = and_then (some_or (fault_in piece 2) (form_with keys value)) (draft_of schema piece)

-- the bare pattern is one over the schema, and its entries are few, stand on its parts, and have atoms that fit
pub record IsSound (schema : Presentation) (draft : Draft) : Type 0 where
  pub over : IsPatternOver (signature_of schema) [] draft.bare
  pub free : draft.bare.cells ≡ []
  pub attributes : All (λ (entry : Entry). entry.attr.0 < length schema.attributes) draft.entries
  pub few : length draft.entries ≤ 256
  pub parts : list_all (is_on_part draft.bare) draft.entries ≡ true
  pub atoms : list_all (fits_atom (signature_of schema)) draft.entries ≡ true

-- ---- patterns with entries, by their drafts

-- the pattern with these entries
abbrev pub with_cells : PatternLists → List PatternCell → PatternLists
with_cells bare cells = record { sizes = bare.sizes; rows = bare.rows; cells = cells; holders = bare.holders }

-- the pattern of these lists, where no variable is of two kinds
abbrev pub pattern_of : Signature → Piece → List Kind → PatternLists → Result PatternLists DocFault
pattern_of C piece kinds lists = checked (fault_in piece 14) (is_none (variable_fault C kinds lists)) (Ok lists)

-- the pattern with the entries, and its variables
abbrev pub pattern_with : Presentation → Piece → PatternLists → List Entry → Result PatternRead DocFault
pattern_with schema piece bare entries =
    and_then (some_or (fault_in piece 14) (all_some (cell_of (variables_of entries)) entries)) (λ cells.
    checked (fault_in piece 14) (is_none (variable_fault (signature_of schema) (kinds_of schema.attributes entries) (with_cells bare cells)))
    (Ok (record { pattern = with_cells bare cells; variables = variables_of entries; kinds = kinds_of schema.attributes entries })))
