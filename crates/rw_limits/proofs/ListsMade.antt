-- Lists of lists that a loop makes, one list for each item.
use Rattle.std.proofs.Common.{◌≡◌, ◌∙◌, ℕ, ◌+◌, ◌<◌, List, [], ◌∷◌, ◌++◌, map, take, length, get_or, sym, ap, zero-add}
use Rattle.std.specs.List.{range_with_len}
use Rattle.std.proofs.lemmas.List.{length-map, map_push, take-map, get_or-map}
use Rattle.std.proofs.lemmas.List.FromFn.{map-range_with_len_more}
use Rattle.rw_schema.specs.First.{map_in}
use Rattle.rw_schema.proofs.Lists.{map_in_more}

-- what a map with places gives of one item more, behind a map
mapped_more : {X Y A : Type 0} (f : ℕ → Y → A) (h : X → Y) (xs : List X) (i : ℕ) (x : X) → i < length xs → x ≡ get_or xs i x
    → map_in f 0 (map h (take (i + 1) xs)) ≡ map_in f 0 (map h (take i xs)) ++ f i (h x) ∷ []
mapped_more f h xs i x within read =
    let here : h x ≡ get_or (map h xs) i (h x) = ap h read ∙ sym (get_or-map h xs i x (h x) within) in
    let below : i < length (map h xs) = rw (length-map xs h) within in
    ap (map_in f 0) (sym (take-map h (i + 1) xs))
    ∙ map_in_more f (map h xs) i (h x) below here
    ∙ ap (λ front. map_in f 0 front ++ f i (h x) ∷ []) (take-map h i xs)

-- a list more, for one item more
pub list_pushed : {X Y A V : Type 0} (items : V → List A) (f : ℕ → Y → List A) (h : X → Y) (xs : List X) (i : ℕ) (x : X) (old new : List V) (list : V)
    → i < length xs → x ≡ get_or xs i x → map items old ≡ map_in f 0 (map h (take i xs)) → new ≡ old ++ list ∷ [] → items list ≡ f i (h x)
    → map items new ≡ map_in f 0 (map h (take (i + 1) xs))
list_pushed items f h xs i x old new list within read before pushed made =
    ap (map items) pushed
    ∙ map_push items old list
    ∙ rw (before, made) (sym (mapped_more f h xs i x within read))

-- a list more, for one number more
pub list_pushed_at : {A V : Type 0} (items : V → List A) (h : ℕ → List A) (i : ℕ) (old new : List V) (list : V)
    → map items old ≡ map h (range_with_len 0 i) → new ≡ old ++ list ∷ [] → items list ≡ h i → map items new ≡ map h (range_with_len 0 (i + 1))
list_pushed_at items h i old new list before pushed made =
    ap (map items) pushed
    ∙ map_push items old list
    ∙ rw (before, made) (sym (map-range_with_len_more h 0 i i (zero-add i)))
