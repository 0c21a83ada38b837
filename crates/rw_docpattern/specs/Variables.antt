-- The variables of a pattern, numbered by their first places.
use Rattle.std.specs.Prelude.{ℕ, ◌-◌, ◌^◌, Bool, false, not, List, [], ◌∷◌, map, take, Option, Some, None, option_map, position, slice_get, unwrap_or, if◌then◌else◌}
use Rattle.std.specs.List.{list_any}
use Rattle.std.specs.Str.{bytes_eq}
use Rattle.rw_schema.specs.declared.atom.Kind.{Kind}
use Rattle.rw_schema.specs.declared.atom.Kind.TheVariants as kinds
use Rattle.rw_schema.specs.declared.parts.AttrDef.{AttrDef}
use Rattle.rw_schema.specs.First.{flat_map_in}
use Rattle.rw_docpattern.specs.declared.entry.Entry.{Entry}
use Rattle.rw_docpattern.specs.declared.term.WrittenTerm.{WrittenTerm, fold-WrittenTerm}
use Rattle.rw_docpattern.specs.declared.term.WrittenTerm.TheOpen.{WrittenTerm-F}

-- the name of the variable that a whole term is
abbrev pub name_step : WrittenTerm-F (Option (List ℕ)) → Option (List ℕ)
name_step (WrittenTerm-F.Const atom) = None
name_step (WrittenTerm-F.Var name) = Some name
name_step (WrittenTerm-F.Op name first second) = None

abbrev pub variable_name : WrittenTerm → Option (List ℕ)
variable_name = fold-WrittenTerm (Option (List ℕ)) name_step

-- the name is there, and it is this one
abbrev pub is_name_of : List ℕ → Option (List ℕ) → Bool
is_name_of name None = false
is_name_of name (Some other) = bytes_eq name other

-- the entry has the variable with this name
abbrev pub has_variable : List ℕ → Entry → Bool
has_variable name entry = is_name_of name (variable_name entry.term)

-- a name is there, which none of the entries has
abbrev pub is_new : List Entry → Option (List ℕ) → Bool
is_new before None = false
is_new before (Some name) = not (list_any (has_variable name) before)

-- the entry, where its variable has no earlier place
abbrev pub first_at : List Entry → ℕ → Entry → List Entry
first_at entries place entry = if is_new (take place entries) (variable_name entry.term) then entry ∷ [] else []

-- the first entry of each variable, in order
abbrev pub firsts : List Entry → List Entry
firsts entries = flat_map_in (first_at entries) 0 entries

-- the names of the variables, by their numbers
abbrev pub variables_of : List Entry → List (List ℕ)
variables_of entries = map (λ (entry : Entry). unwrap_or (variable_name entry.term) []) (firsts entries)

-- the kind of an attribute
abbrev pub kind_at : List AttrDef → Entry → Kind
kind_at attributes entry = unwrap_or (option_map (λ (attribute : AttrDef). attribute.kind) (slice_get attributes entry.attr.0)) kinds.Int

-- the kinds of the variables, by their numbers: of each the kind of the attribute where it first stands
abbrev pub kinds_of : List AttrDef → List Entry → List Kind
kinds_of attributes entries = map (kind_at attributes) (firsts entries)

-- the number of the variable with this name; a name of none has the greatest number of 32 bits, which is no variable's
abbrev pub number_in : List (List ℕ) → List ℕ → ℕ
number_in variables name = unwrap_or (position (bytes_eq name) variables) (2 ^ 32 - 1)
