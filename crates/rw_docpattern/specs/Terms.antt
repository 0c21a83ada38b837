-- Terms as a document has them: variables and operations have names.
use Rattle.std.specs.Prelude.{ℕ, zero, suc, ◌+◌, max, Bool, ◌&&◌, nat_le, codes, List, [], ◌∷◌, Option, None, option_and_then, option_map, if◌then◌else◌}
use Rattle.serde_json.specs.Data.{Data}
use Rattle.serde_json.specs.Find.{as_str, get}
use Rattle.rw_schema.specs.First.{or_else}
use Rattle.rw_schema.specs.SchemaFaults.{is_name}
use Rattle.rw_doc.specs.Json.{as_list, atom_of, has_only, is_short}
use Rattle.rw_docpattern.specs.declared.term.WrittenTerm.{WrittenTerm, fold-WrittenTerm}
use Rattle.rw_docpattern.specs.declared.term.WrittenTerm.TheOpen.{WrittenTerm-F}
use Rattle.rw_docpattern.specs.declared.term.WrittenTerm.TheVariants.{Const, Var, Op}

-- a variable is an object with its name
abbrev pub variable_of : Data → Option WrittenTerm
variable_of value = if has_only (codes "var" ∷ []) value then option_map Var (option_and_then as_str (get (codes "var") value)) else None

-- an operation of the name on two terms, as they are read
abbrev pub on_operands : (Data → Option WrittenTerm) → List ℕ → List Data → Option WrittenTerm
on_operands read name [] = None
on_operands read name (first ∷ []) = None
on_operands read name (first ∷ second ∷ []) = option_and_then (λ x. option_map (λ y. Op name x y) (read second)) (read first)
on_operands read name (first ∷ second ∷ third ∷ others) = None

-- an operation is an object with its name and a list of two terms
abbrev pub operation_of : (Data → Option WrittenTerm) → Data → Option WrittenTerm
operation_of read value =
    if has_only (codes "args" ∷ codes "op" ∷ []) value
    then option_and_then (λ name. option_and_then (on_operands read name) (option_and_then as_list (get (codes "args") value)))
    (option_and_then as_str (get (codes "op") value))
    else None

-- the term that a value is, with at most so many levels: an atom, a variable or an operation
unfoldable pub term_within : ℕ → Data → Option WrittenTerm
term_within zero value = None
term_within (suc levels) value = or_else (option_map Const (atom_of value)) (or_else (variable_of value) (operation_of (term_within levels) value))

-- how deep values nest in a text at most, so no term has more levels
unfoldable pub most_nesting : ℕ
most_nesting = 127

-- the term that a value is
abbrev pub term_of : Data → Option WrittenTerm
term_of value = term_within most_nesting value

-- ---- limits

-- one level of a term: a text has at most 65,535 bytes, and the name of a variable 1 to 255
abbrev pub texts_step : WrittenTerm-F Bool → Bool
texts_step (WrittenTerm-F.Const atom) = is_short atom
texts_step (WrittenTerm-F.Var name) = is_name name
texts_step (WrittenTerm-F.Op name first second) = first && second

-- each text and each name of a variable has a length that is allowed
abbrev pub has_short_texts : WrittenTerm → Bool
has_short_texts = fold-WrittenTerm Bool texts_step

-- one level of a term
abbrev pub levels_step : WrittenTerm-F ℕ → ℕ
levels_step (WrittenTerm-F.Const atom) = 1
levels_step (WrittenTerm-F.Var name) = 1
levels_step (WrittenTerm-F.Op name first second) = 1 + max first second

-- how many levels a term has
abbrev pub levels_of : WrittenTerm → ℕ
levels_of = fold-WrittenTerm ℕ levels_step

-- the texts are short enough, and there are at most 32 levels
abbrev pub is_within_limits : WrittenTerm → Bool
is_within_limits term = has_short_texts term && nat_le (levels_of term) 32
