-- The first pieces of watches: their own keys, names and monic objects.
use Rattle.std.specs.Prelude.{ℕ, Bool, not, codes, List, [], ◌∷◌, Option, None, option_and_then, option_map, Result, Ok, if◌then◌else◌}
use Rattle.std.specs.List.{list_any}
use Rattle.std.specs.Str.{bytes_eq}
use Rattle.serde_json.specs.Data.{Data}
use Rattle.serde_json.specs.Find.{as_str, get}
use Rattle.rw_schema.specs.SchemaFaults.{is_name}
use Rattle.rw_doc.specs.declared.fault.DocFault.{DocFault}
use Rattle.rw_doc.specs.Chain.{and_then, some_or, checked}
use Rattle.rw_doc.specs.Json.{has_only}
use Rattle.rw_doc.specs.declared.piece.Piece.{Piece}
use Rattle.rw_doc.specs.Pieces.{fault_in}
use Rattle.rw_docpattern.specs.Objects.{read_monic, texts_or_none}

-- the keys of a watch
abbrev pub watch_keys : List (List ℕ)
watch_keys = codes "monic" ∷ codes "name" ∷ codes "pattern" ∷ []

-- the members of a watch
pub record WatchMembers : Type 0 where
  pub name : Data
  pub pattern : Data
  pub monic : Option Data

-- an object with no other keys
abbrev pub watch_members : Data → Option WatchMembers
watch_members value =
    if has_only watch_keys value
    then option_and_then (λ name. option_map (λ pattern. record { name = name; pattern = pattern; monic = get (codes "monic") value })
    (get (codes "pattern") value)) (get (codes "name") value)
    else None

-- the name, and the names of monic objects
pub record WatchForm : Type 0 where
  pub name : List ℕ
  pub monic : List (List ℕ)

abbrev pub watch_form : WatchMembers → Option WatchForm
watch_form members = option_and_then (λ name. option_map (λ monic. record { name = name; monic = monic }) (texts_or_none members.monic)) (as_str members.name)

-- the name, and of each object whether it is monic
pub record WatchHead : Type 0 where
  pub name : List ℕ
  pub monic : List Bool

-- a watch's own piece, where these names are taken: codes 2, 4, 5 and 6
abbrev pub read_watch_head : List (List ℕ) → List (List ℕ) → Piece → WatchMembers → Result WatchHead DocFault
read_watch_head objects taken piece members = and_then (some_or (fault_in piece 2) (watch_form members)) (λ form.
    checked (fault_in piece 4) (is_name form.name)
    (checked (fault_in piece 5) (not (list_any (bytes_eq form.name) taken))
    (and_then (read_monic objects piece form.monic) (λ monic. Ok (record { name = form.name; monic = monic })))))
