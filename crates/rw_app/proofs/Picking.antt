-- The matches of a list are tried one after the other.
use Rattle.std.proofs.Common.{◌≡◌, ℕ, ◌+◌, ◌<◌, List, [], ◌∷◌, ◌++◌, length, take, drop, get_or, sym, ap, ◌∙◌, add-one, drop-cons}
use Rattle.std.proofs.lemmas.List.{map-append, take_more, take-append-drop}
use Rattle.rw_rule.specs.declared.refusal.Refusal.{Refusal}
use Rattle.rw_app.specs.Runs.{tuples_of}

-- where the matches before a place are refused, and the one there is, the refused ones are those before the next place
pub refused_more : (found : List (List ℕ)) (refused : List (List ℕ × Refusal)) (i : ℕ) (tuple : List ℕ) (refusal : Refusal)
    → tuples_of refused ≡ take i found → i < length found → tuple ≡ get_or found i tuple
    → tuples_of (refused ++ (tuple, refusal) ∷ []) ≡ take (i + 1) found
refused_more found refused i tuple refusal before within is =
    map-append (λ (entry : List ℕ × Refusal). entry.0) refused ((tuple, refusal) ∷ [])
    ∙ ap (λ front. front ++ tuple ∷ []) before
    ∙ ap (λ next. take i found ++ next ∷ []) is
    ∙ sym (take_more found i tuple within)

-- where the matches before a place are refused, the list is these, the match there and the rest
pub picked_there : (found : List (List ℕ)) (refused : List (List ℕ × Refusal)) (i : ℕ) (tuple : List ℕ)
    → tuples_of refused ≡ take i found → i < length found → tuple ≡ get_or found i tuple
    → found ≡ tuples_of refused ++ tuple ∷ drop (i + 1) found
picked_there found refused i tuple before within is =
    let next : drop i found ≡ tuple ∷ drop (i + 1) found = rw (add-one, drop-cons found i tuple within, ← is) in
    sym (take-append-drop i found) ∙ ap (λ rest. take i found ++ rest) next ∙ ap (λ front. front ++ tuple ∷ drop (i + 1) found) (sym before)
