-- Readings one after the other: the first fault decides.
use Rattle.std.specs.Prelude.{ℕ, ◌+◌, Bool, true, false, List, [], ◌∷◌, ◌++◌, Option, Some, None, option_and_then, option_map, Result, Ok, Err}

-- f of what was read, or the fault
abbrev pub and_then : {A B E : Type 0} → Result A E → (A → Result B E) → Result B E
and_then (Ok x) f = f x
and_then (Err fault) f = Err fault

-- f of each place and item in order, where the list begins at place i, up to the first fault
abbrev pub each_in : {X A E : Type 0} → (ℕ → X → Result A E) → ℕ → List X → Result (List A) E
each_in f i [] = Ok []
each_in f i (x ∷ xs) = and_then (f i x) (λ y. and_then (each_in f (i + 1) xs) (λ ys. Ok (y ∷ ys)))

-- f of what was read of the items before and of each item in order, up to the first fault; the list begins behind what was
-- read before
abbrev pub each_after : {X A E : Type 0} → (List A → X → Result A E) → List A → List X → Result (List A) E
each_after f before [] = Ok before
each_after f before (x ∷ xs) = and_then (f before x) (λ y. each_after f (before ++ y ∷ []) xs)

-- f of each item, where it gives something of all
abbrev pub all_some : {X A : Type 0} → (X → Option A) → List X → Option (List A)
all_some f [] = Some []
all_some f (x ∷ xs) = option_and_then (λ y. option_map (λ ys. y ∷ ys) (all_some f xs)) (f x)

-- what is there, or the fault where nothing is
abbrev pub some_or : {A E : Type 0} → E → Option A → Result A E
some_or fault (Some x) = Ok x
some_or fault None = Err fault

-- what is read where the test holds, or the fault
abbrev pub checked : {A E : Type 0} → E → Bool → Result A E → Result A E
checked fault true reading = reading
checked fault false reading = Err fault

-- x, or the fault where one is there
abbrev pub unfaulted : {A E : Type 0} → Option E → A → Result A E
unfaulted None x = Ok x
unfaulted (Some fault) x = Err fault
