-- Readings of lists, one item after the other.
use Rattle.std.proofs.Common.{◌≡◌, ℕ, zero, suc, add-zero, arith, ◌+◌, ◌<◌, ◌∙◌, inl, inr, false, length, get_or, sym, add-one, drop-cons, Result, Ok, Err, List, [], ◌∷◌, ◌++◌, map, drop, refl, ap, string_bytes, String, Global, Bor}
use Rattle.std.specs.List.{list_all, list_any, range_with_len}
use Rattle.std.specs.Str.{bytes_eq, IsUtf8, is_utf8}
use Rattle.std.proofs.lemmas.List.{append_assoc}
use Rattle.std.proofs.lemmas.Bool.{cases_Bool}
use Rattle.std.proofs.lemmas.Str.{IsUtf8-from_is_utf8}
use Rattle.serde_json.specs.Data.{Data}
use Rattle.serde_json.specs.View.{view, items_of, members_view}
use Rattle.serde_json.specs.declared.value.Value.{Value}
use Rattle.rw_doc.specs.declared.fault.DocFault.{DocFault}
use Rattle.rw_doc.specs.Chain.{and_then, each_in, each_after}
use Rattle.rw_doc.specs.Json.{list_of, keys_of}
use Rattle.rw_schema.proofs.Lists.{list_any_map}

-- all that is read is what was read of the items before place i, with what is read of the others
abbrev pub ReadSo : {A : Type 0} → (Data → Result A DocFault) → List Value → ℕ → List A → Type 0
ReadSo f values i found = each_in (λ place. f) 0 (map view values) ≡ and_then (each_in (λ place. f) i (map view (drop i values))) (λ rest. Ok (found ++ rest))

-- one item more is put behind what was read
put_behind : {A E : Type 0} (found : List A) (y : A) (reading : Result (List A) E)
    → and_then (and_then reading (λ ys. Ok (y ∷ ys))) (λ rest. Ok (found ++ rest)) ≡ and_then reading (λ rest. Ok ((found ++ y ∷ []) ++ rest))
put_behind found y (Ok ys) = ap Ok (sym (append_assoc found (y ∷ []) ys))
put_behind found y (Err fault) = refl

-- the same, where what is read of an item depends on its place
abbrev pub ReadAt : {A : Type 0} → (ℕ → Data → Result A DocFault) → List Value → ℕ → List A → Type 0
ReadAt f values i found = each_in f 0 (map view values) ≡ and_then (each_in f i (map view (drop i values))) (λ rest. Ok (found ++ rest))

-- all that is read is what is read of the items from place i on, behind what was read of the others
abbrev pub ReadBehind : {A : Type 0} → (List A → Data → Result A DocFault) → List Value → ℕ → List A → Type 0
ReadBehind f values i found = each_after f [] (map view values) ≡ each_after f found (map view (drop i values))

-- the item at this place is read by its place: the others come later
pub read_more_at : {A : Type 0} (f : ℕ → Data → Result A DocFault) (values : List Value) (i : ℕ) (found : List A) (value : Value) (y : A)
    → ReadAt f values i found → i < length values → value ≡ get_or values i value → f i (view value) ≡ Ok y → ReadAt f values (i + 1) (found ++ y ∷ [])
read_more_at f values i found value y so within is read =
    so ∙ rw (drop-cons values i value within, ← is, read, add-one) (put_behind found y (each_in f (suc i) (map view (drop (suc i) values))))

-- the item at this place is read: the others come later
pub read_more : {A : Type 0} (f : Data → Result A DocFault) (values : List Value) (i : ℕ) (found : List A) (value : Value) (y : A)
    → ReadSo f values i found → i < length values → value ≡ get_or values i value → f (view value) ≡ Ok y → ReadSo f values (i + 1) (found ++ y ∷ [])
read_more f values i found value y = read_more_at (λ place. f) values i found value y

-- the item at this place is read behind what was read before: the others come later
pub read_more_behind : {A : Type 0} (f : List A → Data → Result A DocFault) (values : List Value) (i : ℕ) (found : List A) (value : Value) (y : A)
    → ReadBehind f values i found → i < length values → value ≡ get_or values i value → f found (view value) ≡ Ok y → ReadBehind f values (i + 1) (found ++ y ∷ [])
read_more_behind f values i found value y so within is read = so ∙ rw (drop-cons values i value within, ← is, read, add-one) refl

-- the items of an array, as a list
pub list_of_items : (values : List Data) → list_of (items_of values) ≡ values
list_of_items [] = refl
list_of_items (value ∷ values) = ap (λ rest. value ∷ rest) (list_of_items values)

-- the keys of an object are among some where those of its members are
pub keys_among : (keys : List (Bor (List ℕ))) (members : List (String Global × Value))
    → list_all (λ key. list_any (bytes_eq key) (map (λ other. other.now) keys)) (keys_of (members_view members))
    ≡ list_all (λ key. list_any (λ other. bytes_eq (string_bytes key) other.now) keys) (map (λ entry. entry.0) members)
keys_among keys [] = refl
keys_among keys (entry ∷ members) = rw (list_any_map (bytes_eq (string_bytes entry.0)) (λ other. other.now) keys, keys_among keys members) refl

-- bytes that are no UTF-8 fail its test
pub not_utf8 : (bytes : List ℕ) → (IsUtf8 bytes → ⊥) → is_utf8 bytes ≡ false
not_utf8 bytes never = elim (cases_Bool (is_utf8 bytes)) [ inl passes ↦ absurd (never (IsUtf8-from_is_utf8 bytes passes)) | inr fails ↦ fails ]

-- one name more
pub range_more : (first count : ℕ) → range_with_len first count ++ (first + count) ∷ [] ≡ range_with_len first (suc count)
range_more first zero = rw add-zero refl
range_more first (suc count) =
    let same : (first + 1) + count ≡ first + suc count = omega arith in
    ap (λ rest. first ∷ rest) (rw same at (range_more (first + 1) count))
