-- What is written of a pattern: lists of numbers, and entries on cells.
use Rattle.std.specs.Prelude.{ℕ, codes, List, [], ◌∷◌, Option, Some, None, option_and_then, option_map, if◌then◌else◌}
use Rattle.serde_json.specs.Data.{Data}
use Rattle.serde_json.specs.Find.{as_str, get}
use Rattle.rw_doc.specs.Chain.{all_some}
use Rattle.rw_doc.specs.Json.{as_list, has_only}
use Rattle.rw_docpattern.specs.declared.entry.WrittenEntry.{WrittenEntry}
use Rattle.rw_doc.specs.Numbers.{as_number, as_numbers, as_number_lists}
use Rattle.rw_docpattern.specs.Terms.{term_of}

-- an entry is a list of the name of an attribute, a part and a term
abbrev pub entry_from : List Data → Option WrittenEntry
entry_from [] = None
entry_from (attribute ∷ []) = None
entry_from (attribute ∷ part ∷ []) = None
entry_from (attribute ∷ part ∷ term ∷ []) = option_and_then (λ name. option_and_then (λ number.
    option_map (λ read. record { attribute = name; part = number; term = read }) (term_of term)) (as_number part)) (as_str attribute)
entry_from (attribute ∷ part ∷ term ∷ other ∷ others) = None

abbrev pub entry_of : Data → Option WrittenEntry
entry_of value = option_and_then entry_from (as_list value)

-- the entries that are written, or none
abbrev pub entries_or_none : Option Data → Option (List WrittenEntry)
entries_or_none None = Some []
entries_or_none (Some value) = option_and_then (all_some entry_of) (as_list value)

-- the numbers of parts, the rows, and the entries on cells
pub record PatternForm : Type 0 where
  pub sizes : List ℕ
  pub rows : List (List ℕ)
  pub entries : List WrittenEntry

abbrev pub form_from : Data → Option PatternForm
form_from value = option_and_then (λ sizes. option_and_then (λ rows.
    option_map (λ entries. record { sizes = sizes; rows = rows; entries = entries }) (entries_or_none (get (codes "cells") value)))
    (option_and_then as_number_lists (get (codes "rows") value))) (option_and_then as_numbers (get (codes "parts") value))

-- the keys of a pattern without entries, and of one with entries
abbrev pub bare_keys : List (List ℕ)
bare_keys = codes "parts" ∷ codes "rows" ∷ []

abbrev pub pattern_keys : List (List ℕ)
pattern_keys = codes "cells" ∷ codes "parts" ∷ codes "rows" ∷ []

-- the form of a pattern with no other keys than these
abbrev pub form_with : List (List ℕ) → Data → Option PatternForm
form_with keys value = if has_only keys value then form_from value else None
