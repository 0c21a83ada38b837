-- The right pattern of a rule, whose entries set cells to the values of terms, or its first fault.
use Rattle.std.specs.Prelude.{ℕ, Bool, ◌&&◌, is_none, length, map, List, position, unwrap_or, Result, Ok}
use Rattle.std.specs.List.{list_all}
use Rattle.std.specs.Str.{bytes_eq}
use Rattle.serde_json.specs.Data.{Data}
use Rattle.rw_schema.specs.Presentation.{Presentation, signature_of}
use Rattle.rw_schema.specs.Signature.{Signature}
use Rattle.rw_pattern.specs.PatternLists.{PatternLists}
use Rattle.rw_terms.specs.declared.term.Term.{Term}
use Rattle.rw_terms.specs.declared.term.Term.TheVariants as terms
use Rattle.rw_terms.specs.OpTables.{OpEntry}
use Rattle.rw_rule.specs.Sets.{fits_term, is_closed, set_again}
use Rattle.rw_rule.specs.declared.set.SetCell.{SetCell}
use Rattle.rw_doc.specs.declared.fault.DocFault.{DocFault}
use Rattle.rw_doc.specs.Chain.{and_then, checked}
use Rattle.rw_docpattern.specs.declared.entry.Entry.{Entry}
use Rattle.rw_doc.specs.declared.piece.Piece.{Piece}
use Rattle.rw_docpattern.specs.declared.term.WrittenTerm.{WrittenTerm, fold-WrittenTerm}
use Rattle.rw_docpattern.specs.declared.term.WrittenTerm.TheOpen.{WrittenTerm-F}
use Rattle.rw_docpattern.specs.Forms.{PatternForm, pattern_keys}
use Rattle.rw_docpattern.specs.Patterns.{PatternRead, bare_lists, read_entries, read_form}
use Rattle.rw_doc.specs.Pieces.{fault_in}
use Rattle.rw_docpattern.specs.Variables.{number_in}

-- the number of the operation with this name; a name of none has the number after the last, which is no operation's
abbrev pub operation_in : List OpEntry → List ℕ → ℕ
operation_in ops name = unwrap_or (position (λ (op : OpEntry). bytes_eq name op.name) ops) (length ops)

-- one level of a term, with numbers for names
abbrev pub numbered_step : List OpEntry → List (List ℕ) → WrittenTerm-F Term → Term
numbered_step ops variables (WrittenTerm-F.Const atom) = terms.Const atom
numbered_step ops variables (WrittenTerm-F.Var name) = terms.Var (number_in variables name)
numbered_step ops variables (WrittenTerm-F.Op name first second) = terms.Op (operation_in ops name) first second

-- the term with numbers for the names of its variables and operations
abbrev pub numbered : List OpEntry → List (List ℕ) → WrittenTerm → Term
numbered ops variables = fold-WrittenTerm Term (numbered_step ops variables)

abbrev pub set_of : List OpEntry → List (List ℕ) → Entry → SetCell
set_of ops variables entry = record { attr = entry.attr; part = entry.part; term = numbered ops variables entry.term }

abbrev pub sets_of : List OpEntry → List (List ℕ) → List Entry → List SetCell
sets_of ops variables entries = map (set_of ops variables) entries

-- the set has variables of the left pattern alone, and its term has the attribute's kind
abbrev pub fits_left : Signature → List OpEntry → PatternRead → SetCell → Bool
fits_left C ops left set = is_closed left.pattern set.term && fits_term C (length ops) left.kinds set

-- each set fits, and none is on a cell that an earlier one is on
abbrev pub are_sets : Signature → List OpEntry → PatternRead → List SetCell → Bool
are_sets C ops left sets = list_all (fits_left C ops left) sets && is_none (set_again sets)

-- a pattern, and the cells of it that are set
pub record RightRead : Type 0 where
  pub pattern : PatternLists
  pub sets : List SetCell

-- the pattern with these sets: code 14
abbrev pub with_sets : Presentation → List OpEntry → Piece → PatternRead → PatternForm → List SetCell → Result RightRead DocFault
with_sets schema ops piece left form sets =
    checked (fault_in piece 14) (are_sets (signature_of schema) ops left sets) (Ok (record { pattern = bare_lists (signature_of schema) form; sets = sets }))

abbrev pub read_right : Presentation → List OpEntry → Piece → PatternRead → Data → Result RightRead DocFault
read_right schema ops piece left value = and_then (read_form (signature_of schema) piece pattern_keys value) (λ form.
    and_then (read_entries schema piece form) (λ entries. with_sets schema ops piece left form (sets_of ops left.variables entries)))
