-- The first of several faults, and the first in a list.
use Rattle.std.specs.Prelude.{ℕ, ◌+◌, Bool, true, false, ◌&&◌, Option, Some, None, List, [], ◌∷◌, ◌++◌}

-- the first of two answers that is there
abbrev pub or_else : {A : Type 0} → Option A → Option A → Option A
or_else None second = second
or_else (Some first) second = Some first

-- the first answer that f gives of a place and the item there, where the list begins at place i
abbrev pub first_in : {X A : Type 0} → (ℕ → X → Option A) → ℕ → List X → Option A
first_in f i [] = None
first_in f i (x ∷ xs) = or_else (f i x) (first_in f (i + 1) xs)

-- the fault, where the test failed
abbrev pub fault_unless : {A : Type 0} → Bool → A → Option A
fault_unless true fault = None
fault_unless false fault = Some fault

-- what f gives of each place and the item there, where the list begins at place i
abbrev pub map_in : {X A : Type 0} → (ℕ → X → A) → ℕ → List X → List A
map_in f i [] = []
map_in f i (x ∷ xs) = f i x ∷ map_in f (i + 1) xs

-- whether f holds of each place and the item there, where the list begins at place i
abbrev pub all_in : {X : Type 0} → (ℕ → X → Bool) → ℕ → List X → Bool
all_in f i [] = true
all_in f i (x ∷ xs) = f i x && all_in f (i + 1) xs

-- what f gives of each place and the item there, one after the other, where the list begins at place i
abbrev pub flat_map_in : {X A : Type 0} → (ℕ → X → List A) → ℕ → List X → List A
flat_map_in f i [] = []
flat_map_in f i (x ∷ xs) = f i x ++ flat_map_in f (i + 1) xs
