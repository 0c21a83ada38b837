-- JSON values as a document reads them.
use Rattle.std.specs.Prelude.{ℕ, Bool, true, false, nat_le, length, List, [], ◌∷◌, Option, Some, None, is_some, option_and_then, option_map}
use Rattle.std.specs.List.{list_all, list_any}
use Rattle.std.specs.Str.{bytes_eq}
use Rattle.serde_json.specs.Data.{Data, Items, no_items, item, Members, no_members, member}
use Rattle.serde_json.specs.Find.{as_array, as_bool, as_i64, as_null, as_number, as_object, as_str, as_u64}
use Rattle.rw_schema.specs.declared.atom.Atom.{Atom}
use Rattle.rw_schema.specs.declared.atom.Atom.TheVariants as atoms
use Rattle.rw_schema.specs.First.{or_else}
use Rattle.rw_doc.specs.Chain.{all_some}
use Rattle.rw_doc.specs.Limits.{longest_text}

abbrev pub list_of : Items → List Data
list_of no_items = []
list_of (item value items) = value ∷ list_of items

abbrev pub keys_of : Members → List (List ℕ)
keys_of no_members = []
keys_of (member key value members) = key ∷ keys_of members

-- the items of an array
abbrev pub as_list : Data → Option (List Data)
as_list value = option_map list_of (as_array value)

-- the texts that the items of an array are
abbrev pub as_texts : Data → Option (List (List ℕ))
as_texts value = option_and_then (all_some as_str) (as_list value)

-- a whole number from 0 up, of 64 bits
abbrev pub as_count : Data → Option ℕ
as_count value = option_and_then as_u64 (as_number value)

-- the members have no other keys than these
abbrev pub are_among : List (List ℕ) → Option Members → Bool
are_among keys None = false
are_among keys (Some members) = list_all (λ key. list_any (bytes_eq key) keys) (keys_of members)

-- the value is an object with no other keys than these
abbrev pub has_only : List (List ℕ) → Data → Bool
has_only keys value = are_among keys (as_object value)

abbrev pub is_null : Data → Bool
is_null value = is_some (as_null value)

-- the atom that a value is: a whole number of 64 bits with a sign, a text or a truth
abbrev pub atom_of : Data → Option Atom
atom_of value =
    or_else (option_map atoms.Int (option_and_then as_i64 (as_number value)))
    (or_else (option_map atoms.Text (as_str value)) (option_map atoms.Bool (as_bool value)))

-- a text has at most as many bytes as a text may have
abbrev pub is_short : Atom → Bool
is_short (atoms.Int number) = true
is_short (atoms.Text text) = nat_le (length text) longest_text
is_short (atoms.Bool truth) = true
