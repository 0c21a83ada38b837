-- The variables of conditions, numbered behind those that have a number already.
use Rattle.std.specs.Prelude.{ℕ, ◌++◌, List, [], ◌∷◌, Option, Some, None}
use Rattle.rw_schema.specs.declared.atom.Kind.{Kind}
use Rattle.rw_schema.specs.declared.parts.AttrDef.{AttrDef}
use Rattle.rw_docpattern.specs.declared.entry.Entry.{Entry}
use Rattle.rw_docpattern.specs.Numbering.{new_name}
use Rattle.rw_docpattern.specs.Variables.{kind_at, variable_name}

-- variables by their numbers
pub record Known : Type 0 where
  pub names : List (List ℕ)
  pub kinds : List Kind

-- the next number goes to a variable that has none, with this kind
abbrev pub known_with : Known → Kind → Option (List ℕ) → Known
known_with known kind None = known
known_with known kind (Some name) = record { names = known.names ++ name ∷ []; kinds = known.kinds ++ kind ∷ [] }

-- entry by entry, a variable that has no number yet has the next one, with the kind of the entry's attribute
abbrev pub known_after : List AttrDef → Known → List Entry → Known
known_after attributes known [] = known
known_after attributes known (entry ∷ entries) =
    known_after attributes (known_with known (kind_at attributes entry) (new_name known.names (variable_name entry.term))) entries
