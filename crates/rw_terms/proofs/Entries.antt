-- The names and the codes of operations, as they are kept and as contracts see them.
use Rattle.std.proofs.Common.{◌≡◌, ℕ, zero, suc, ◌<◌, Some, List, [], ◌∷◌, map, length, get_or, position, slice_get, refl, sym, ◌∙◌, arith}
use Rattle.std.specs.List.{list_any}
use Rattle.std.specs.Str.{bytes_eq}
use Rattle.rw_schema.proofs.Lists.{list_any_map, position_map}
use Rattle.rw_terms.specs.OpTables.{OpEntry, is_named, codes_of}

-- a name stands among the names exactly where an operation has it
pub has_name : {X : Type 0} (entry_of : X → OpEntry) (items : List X) (names : List (List ℕ)) (name : List ℕ)
    → names ≡ map (λ x. (entry_of x).name) items → list_any (bytes_eq name) names ≡ is_named (map entry_of items) name
has_name entry_of items names name are =
    rw are (list_any_map (bytes_eq name) (λ x. (entry_of x).name) items ∙ sym (list_any_map (λ (op : OpEntry). bytes_eq name op.name) entry_of items))

-- a name's place among the names is that of the operation that has it
pub place_of_name : {X : Type 0} (entry_of : X → OpEntry) (items : List X) (names : List (List ℕ)) (name : List ℕ)
    → names ≡ map (λ x. (entry_of x).name) items → position (bytes_eq name) names ≡ position (λ (op : OpEntry). bytes_eq name op.name) (map entry_of items)
place_of_name entry_of items names name are =
    rw are (position_map (bytes_eq name) (λ x. (entry_of x).name) items ∙ sym (position_map (λ (op : OpEntry). bytes_eq name op.name) entry_of items))

-- the code of the operation at a place
pub code_at : {X : Type 0} (entry_of : X → OpEntry) (items : List X) (i : ℕ) (x : X)
    → i < length items → x ≡ get_or items i x → slice_get (codes_of (map entry_of items)) i ≡ Some (entry_of x).code
code_at entry_of [] i x within is = absurd (omega arith)
code_at entry_of (y ∷ ys) zero x within is = rw is refl
code_at entry_of (y ∷ ys) (suc i) x within is = code_at entry_of ys i x (omega arith) is
