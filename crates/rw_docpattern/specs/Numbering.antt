-- How variables get their numbers: by the names that were met before.
use Rattle.std.specs.Prelude.{ℕ, List, [], Option, Some, None, unwrap_or, if◌then◌else◌}
use Rattle.std.specs.List.{list_any}
use Rattle.std.specs.Str.{bytes_eq}
use Rattle.rw_docpattern.specs.declared.entry.Entry.{Entry}
use Rattle.rw_docpattern.specs.Variables.{variable_name}

-- the name, where one is there that is none of those that were met
abbrev pub new_name : List (List ℕ) → Option (List ℕ) → Option (List ℕ)
new_name names None = None
new_name names (Some name) = if list_any (bytes_eq name) names then None else Some name

-- the name of the entry's variable
abbrev pub name_of : Entry → List ℕ
name_of entry = unwrap_or (variable_name entry.term) []
