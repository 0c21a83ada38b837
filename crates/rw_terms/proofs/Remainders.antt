-- What a quotient leaves.
use Rattle.std.proofs.Common.{◌≡◌, ℤ, ◌+ℤ◌, ◌-ℤ◌, ◌*ℤ◌, arith}
use Rattle.std.proofs.Math.IntN.{*ℤ_comm}
use Rattle.std.proofs.lemmas.Int.{ints, quot-rem}
use Rattle.std.specs.Int.RustNames.{int_div, int_rem}

-- what is left of a sum without its first part
rest_of_sum : (whole part rest : ℤ) → part +ℤ rest ≡ whole → whole -ℤ part ≡ rest
rest_of_sum whole part rest sum = omega (arith, ints)

-- what a quotient leaves is the remainder
pub left_of_quotient : (x y : ℤ) → x -ℤ y *ℤ int_div x y ≡ int_rem x y
left_of_quotient x y = rest_of_sum x (y *ℤ int_div x y) (int_rem x y) (rw (*ℤ_comm y (int_div x y)) (quot-rem x y))
