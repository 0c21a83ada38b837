-- Lists of texts.
use Rattle.std.proofs.Common.{◌≡◌, ℕ, Bool, true, false, ◌&&◌, Option, Some, None, List, [], ◌∷◌, is_some, unwrap_or, option_and_then, option_map, map, refl}
use Rattle.std.specs.List.{list_all}
use Rattle.serde_json.specs.Find.{as_str}
use Rattle.serde_json.specs.View.{view}
use Rattle.serde_json.specs.declared.value.Value.{Value}
use Rattle.rw_doc.specs.Chain.{all_some}
use Rattle.rw_doc.specs.Texts.{is_text, text_of}

-- a text in front of texts
text_first : (first : Option (List ℕ)) (texts : Option (List (List ℕ))) (rest : List (List ℕ)) (all : Bool)
    → (is_some first && all) ≡ true → (all ≡ true → texts ≡ Some rest)
    → option_and_then (λ y. option_map (λ ys. y ∷ ys) texts) first ≡ Some (unwrap_or first [] ∷ rest)
text_first None texts rest all are later = let never : ⊥ = cc in absurd never
text_first (Some text) texts rest all are later = rw (later are) refl

-- where the first or a later item is no text, they are not texts
no_text_first : (first : Option (List ℕ)) (texts : Option (List (List ℕ))) (all : Bool)
    → (is_some first && all) ≡ false → (all ≡ false → texts ≡ None)
    → option_and_then (λ y. option_map (λ ys. y ∷ ys) texts) first ≡ None
no_text_first None texts all are later = refl
no_text_first (Some text) texts all are later = rw (later are) refl

-- items that are texts, as texts
pub all_are_texts : (values : List Value) → list_all (λ value. is_text (view value)) values ≡ true
    → all_some as_str (map view values) ≡ Some (map text_of (map view values))
all_are_texts [] are = refl
all_are_texts (value ∷ values) are =
    text_first (as_str (view value)) (all_some as_str (map view values)) (map text_of (map view values)) (list_all (λ value. is_text (view value)) values) are (all_are_texts values)

-- items of which one is no text
pub one_is_no_text : (values : List Value) → list_all (λ value. is_text (view value)) values ≡ false → all_some as_str (map view values) ≡ None
one_is_no_text [] are = let never : ⊥ = cc in absurd never
one_is_no_text (value ∷ values) are =
    no_text_first (as_str (view value)) (all_some as_str (map view values)) (list_all (λ value. is_text (view value)) values) are (one_is_no_text values)
