-- Walks over the names of an instance, and over those that a change leaves.
use Rattle.std.specs.Prelude.{◌==◌, ◌&&◌, ℕ, Bool, true, false, not, cond, nat_lt, List, [], ◌∷◌, Option, None, Some}
use Rattle.std.specs.List.{list_any}
use Rattle.rw_columns.specs.Changes.{entry_names}

-- what is left of a walk, where there is one
abbrev pub walk_list : Option (List ℕ) → List ℕ
walk_list None = []
walk_list (Some names) = names

-- the list that such a first name and the others are: it is empty where there is no first name
abbrev pub ahead : Option ℕ → List ℕ → List ℕ
ahead None names = []
ahead (Some name) names = name ∷ names

-- the name does not go, and nothing is written anew beside it
abbrev pub is_kept : List ℕ → List (ℕ × ℕ) → ℕ → Bool
is_kept removed rows name = not (list_any (λ other. other == name) removed) && not (list_any (λ other. other == name) (entry_names rows))

-- the names beside which the number stands
abbrev pub leading : List ℕ → List ℕ → ℕ → List ℕ
leading [] values number = []
leading (name ∷ names) [] number = []
leading (name ∷ names) (value ∷ values) number = cond (value == number) (name ∷ leading names values number) (leading names values number)

-- a number and others, which `rest` merges with a list, merged with that list
abbrev pub merge_first : ℕ → (List ℕ → List ℕ) → List ℕ → List ℕ
merge_first x rest [] = x ∷ rest []
merge_first x rest (y ∷ ys) = cond (nat_lt x y) (x ∷ rest (y ∷ ys)) (y ∷ merge_first x rest ys)

-- two ascending lists as one
abbrev pub merge : List ℕ → List ℕ → List ℕ
merge [] ys = ys
merge (x ∷ xs) ys = merge_first x (merge xs) ys

-- the first number is less than the second, where none is above all numbers
abbrev pub comes_before : Option ℕ → Option ℕ → Bool
comes_before (Some x) (Some y) = nat_lt x y
comes_before (Some x) None = true
comes_before None second = false
