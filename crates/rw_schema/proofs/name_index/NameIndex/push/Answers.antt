-- The name is not among the keys, so it goes behind them.
use Rattle.std.proofs.Common.{◌≡◌, List, [], ◌∷◌, ◌++◌, map, false, ◌∙◌, sym, string_bytes, String, Global, string_eq}
use Rattle.std.specs.List.{list_any}
use Rattle.std.specs.Str.{bytes_eq}
use Rattle.std.proofs.lemmas.List.{map-append}
use Rattle.indexmap.specs.IndexSet.{insert_key}
use Rattle.rw_schema.proofs.Lists.{list_any_map}
use Rattle.rw_schema.proofs.name_index.NameIndex.push.Goals as goal

-- a key that is not there goes behind the others
behind : (keys : List (String Global)) (key : String Global) → list_any (bytes_eq (string_bytes key)) (map string_bytes keys) ≡ false
    → map string_bytes (insert_key string_eq keys key) ≡ map string_bytes keys ++ string_bytes key ∷ []
behind keys key missing =
    let fresh : list_any (string_eq key) keys ≡ false = sym (list_any_map (bytes_eq (string_bytes key)) string_bytes keys) ∙ missing in
    rw fresh (map-append string_bytes keys (key ∷ []))

pub returns-clause-ok : goal.returns-clause-ok
returns-clause-ok c =
    let keys = c.self.inside.index.keys in
    let key = c.in_ok-name.name in
    let missing : list_any (bytes_eq (string_bytes key)) (map string_bytes keys) ≡ false = rw (c.in_ok-name.ensures.ok, c.self.view_is) c.requires in
    let shown : map string_bytes c.insert.new.self.keys ≡ map string_bytes keys ++ string_bytes key ∷ [] = rw c.in_ok-insert.ensures.keys (behind keys key missing) in
    rw (← c.self.view_is, ← c.in_ok-name.ensures.ok) shown
