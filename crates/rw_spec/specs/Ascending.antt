-- Lists of numbers that ascend.
use Rattle.std.specs.Prelude.{ℕ, Bool, true, ◌&&◌, nat_lt, List, [], ◌∷◌}

-- each number is less than the one after it
abbrev pub ascends : List ℕ → Bool
ascends [] = true
ascends (x ∷ []) = true
ascends (x ∷ y ∷ rest) = nat_lt x y && ascends (y ∷ rest)
