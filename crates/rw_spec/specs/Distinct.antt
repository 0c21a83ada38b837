-- Lists of names in which each name stands once.
use Rattle.std.specs.Prelude.{◌≡◌, ◌<◌, ◌==◌, ℕ, Bool, true, not, ◌&&◌, List, [], ◌∷◌, length, slice_index}
use Rattle.std.specs.List.{list_any}

-- names at different places differ
abbrev pub AreDistinct : List ℕ → Type 0
AreDistinct names = (i j : ℕ) → i < length names → j < length names → slice_index names i ≡ slice_index names j → i ≡ j

-- no number stands in the list twice, as a test
abbrev pub are_distinct : List ℕ → Bool
are_distinct [] = true
are_distinct (name ∷ names) = not (list_any (λ other. other == name) names) && are_distinct names
