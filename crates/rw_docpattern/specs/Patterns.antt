-- The patterns of rules and watches, or their first faults.
use Rattle.std.specs.Prelude.{ℕ, Bool, true, ◌&&◌, nat_lt, nat_le, is_none, length, List, [], Option, Some, None, option_map, Result, Ok, position, slice_get}
use Rattle.std.specs.List.{list_all}
use Rattle.std.specs.Str.{bytes_eq}
use Rattle.serde_json.specs.Data.{Data}
use Rattle.rw_schema.specs.declared.atom.Kind.{Kind}
use Rattle.rw_schema.specs.declared.parts.AttrDef.{AttrDef}
use Rattle.rw_schema.specs.declared.signature.AttrEnds.{AttrEnds}
use Rattle.rw_schema.specs.Atoms.{kind_of}
use Rattle.rw_schema.specs.Presentation.{Presentation, signature_of}
use Rattle.rw_schema.specs.Signature.{Signature}
use Rattle.rw_pattern.specs.declared.cell.PatternCell.{PatternCell}
use Rattle.rw_pattern.specs.declared.cell.Want.{Want}
use Rattle.rw_pattern.specs.declared.cell.Want.TheVariants as wants
use Rattle.rw_pattern.specs.PatternFaults.{has_shape, has_few_parts, are_in_range, has_kind, variable_fault, equation_fault}
use Rattle.rw_pattern.specs.PatternLists.{PatternLists, size_of, holder, holders_in}
use Rattle.rw_doc.specs.declared.fault.DocFault.{DocFault}
use Rattle.rw_doc.specs.Chain.{and_then, all_some, some_or, checked}
use Rattle.rw_docpattern.specs.declared.entry.Entry.{Entry}
use Rattle.rw_docpattern.specs.declared.entry.WrittenEntry.{WrittenEntry}
use Rattle.rw_doc.specs.declared.piece.Piece.{Piece}
use Rattle.rw_docpattern.specs.declared.term.WrittenTerm.{WrittenTerm, fold-WrittenTerm}
use Rattle.rw_docpattern.specs.declared.term.WrittenTerm.TheOpen.{WrittenTerm-F}
use Rattle.rw_docpattern.specs.Forms.{PatternForm, form_with, bare_keys, pattern_keys}
use Rattle.rw_doc.specs.Pieces.{fault_in}
use Rattle.rw_docpattern.specs.Terms.{is_within_limits}
use Rattle.rw_docpattern.specs.Variables.{kinds_of, number_in, variables_of}

-- the lists of a pattern with these entries
abbrev pub lists_with : Signature → PatternForm → List PatternCell → PatternLists
lists_with C form cells = record { sizes = form.sizes; rows = form.rows; cells = cells; holders = holders_in C }

-- the lists of a pattern without entries
abbrev pub bare_lists : Signature → PatternForm → PatternLists
bare_lists C form = lists_with C form []

-- ---- the form: code 2

-- lists of the right lengths, with no other keys than these
abbrev pub read_form : Signature → Piece → List (List ℕ) → Data → Result PatternForm DocFault
read_form C piece keys value = and_then (some_or (fault_in piece 2) (form_with keys value)) (λ form.
    checked (fault_in piece 2) (has_shape C (bare_lists C form)) (Ok form))

-- ---- limits: code 4

-- there are at most 64 parts and 256 entries, and each term is within its limits
abbrev pub is_form_within : Signature → PatternForm → Bool
is_form_within C form = has_few_parts (bare_lists C form) && nat_le (length form.entries) 256
    && list_all (λ (entry : WrittenEntry). is_within_limits entry.term) form.entries

-- ---- names: code 6

-- the entry on the attribute with its name
abbrev pub entry_named : List AttrDef → WrittenEntry → Option Entry
entry_named attributes entry =
    option_map (λ number. record { attr = record { 0 = number }; part = entry.part; term = entry.term })
    (position (λ (attribute : AttrDef). bytes_eq entry.attribute attribute.name) attributes)

abbrev pub entries_named : List AttrDef → List WrittenEntry → Option (List Entry)
entries_named attributes entries = all_some (entry_named attributes) entries

-- ---- parts: code 8

-- the entry is on a part of its attribute's object
abbrev pub is_on_part : PatternLists → Entry → Bool
is_on_part pattern entry = nat_lt entry.part (size_of pattern (holder pattern entry.attr.0))

-- each image and each entry's part is there
abbrev pub are_parts_there : Signature → PatternForm → List Entry → Bool
are_parts_there C form entries = are_in_range C (bare_lists C form) && list_all (is_on_part (bare_lists C form)) entries

-- ---- atoms: code 9

-- an atom that is a whole term is of the attribute's kind
abbrev pub fits_step : Option AttrEnds → WrittenTerm-F Bool → Bool
fits_step ends (WrittenTerm-F.Const atom) = has_kind (kind_of atom) ends
fits_step ends (WrittenTerm-F.Var name) = true
fits_step ends (WrittenTerm-F.Op name first second) = true

abbrev pub fits_atom : Signature → Entry → Bool
fits_atom C entry = fold-WrittenTerm Bool (fits_step (slice_get C.attributes entry.attr.0)) entry.term

-- ---- what patterns of all sides have in common: codes 2, 4, 6, 8, 9 and 10

-- the entries of a form, where nothing is wrong with it but what may stand in a term
abbrev pub read_entries : Presentation → Piece → PatternForm → Result (List Entry) DocFault
read_entries schema piece form =
    checked (fault_in piece 4) (is_form_within (signature_of schema) form)
    (and_then (some_or (fault_in piece 6) (entries_named schema.attributes form.entries)) (λ entries.
    checked (fault_in piece 8) (are_parts_there (signature_of schema) form entries)
    (checked (fault_in piece 9) (list_all (fits_atom (signature_of schema)) entries)
    (checked (fault_in piece 10) (is_none (equation_fault (signature_of schema) (bare_lists (signature_of schema) form)))
    (Ok entries)))))

-- ---- a pattern without entries

abbrev pub read_bare_pattern : Presentation → Piece → Data → Result PatternLists DocFault
read_bare_pattern schema piece value = and_then (read_form (signature_of schema) piece bare_keys value) (λ form.
    and_then (read_entries schema piece form) (λ entries. Ok (bare_lists (signature_of schema) form)))

-- ---- a pattern whose entries want constants and variables: code 14 besides

-- a pattern, and the names and the kinds of its variables
pub record PatternRead : Type 0 where
  pub pattern : PatternLists
  pub variables : List (List ℕ)
  pub kinds : List Kind

-- what a term wants of a cell: no operation may stand
abbrev pub want_step : List (List ℕ) → WrittenTerm-F (Option Want) → Option Want
want_step variables (WrittenTerm-F.Const atom) = Some (wants.Const atom)
want_step variables (WrittenTerm-F.Var name) = Some (wants.Var (number_in variables name))
want_step variables (WrittenTerm-F.Op name first second) = None

abbrev pub want_of : List (List ℕ) → WrittenTerm → Option Want
want_of variables = fold-WrittenTerm (Option Want) (want_step variables)

abbrev pub cell_of : List (List ℕ) → Entry → Option PatternCell
cell_of variables entry = option_map (λ want. record { attr = entry.attr; part = entry.part; want = want }) (want_of variables entry.term)

-- the pattern with these entries: no operation may stand, and no variable may be of two kinds
abbrev pub with_entries : Presentation → Piece → PatternForm → List Entry → Result PatternRead DocFault
with_entries schema piece form entries =
    and_then (some_or (fault_in piece 14) (all_some (cell_of (variables_of entries)) entries)) (λ cells.
    checked (fault_in piece 14) (is_none (variable_fault (signature_of schema) (kinds_of schema.attributes entries) (lists_with (signature_of schema) form cells)))
    (Ok (record { pattern = lists_with (signature_of schema) form cells; variables = variables_of entries; kinds = kinds_of schema.attributes entries })))

abbrev pub read_pattern : Presentation → Piece → Data → Result PatternRead DocFault
read_pattern schema piece value = and_then (read_form (signature_of schema) piece pattern_keys value) (λ form.
    and_then (read_entries schema piece form) (with_entries schema piece form))
