-- What the operations on whole numbers give: a whole number of 64 bits with a sign, or nothing.
use Rattle.std.specs.Prelude.{ℤ, pos, ◌+ℤ◌, ◌-ℤ◌, ◌*ℤ◌, neg_ℤ, ◌^◌, Bool, ◌&&◌, Option, Some, None, option_map, int_lt, int_le, int_div, if◌then◌else◌}
use Rattle.std.specs.Ordering.{int_eq}
use Rattle.rw_terms.specs.declared.code.OpCode.{OpCode}
use Rattle.rw_terms.specs.declared.code.OpCode.TheVariants.{Add, Sub, Mul, Div, Rem, Min, Max, Less}

-- the number is one of 64 bits with a sign
abbrev pub is_in_range : ℤ → Bool
is_in_range z = int_le (neg_ℤ (pos (2 ^ 63))) z && int_lt z (pos (2 ^ 63))

-- the number, where it is in range
abbrev pub in_range : ℤ → Option ℤ
in_range z = if is_in_range z then Some z else None

-- the quotient rounded toward zero: nothing for the divisor 0, and where it is out of range
abbrev pub quotient : ℤ → ℤ → Option ℤ
quotient x y = if int_eq y (pos 0) then None else in_range (int_div x y)

-- what an operation gives of two numbers
abbrev pub op_value : OpCode → ℤ → ℤ → Option ℤ
op_value Add x y = in_range (x +ℤ y)
op_value Sub x y = in_range (x -ℤ y)
op_value Mul x y = in_range (x *ℤ y)
op_value Div x y = quotient x y
op_value Rem x y = option_map (λ q. x -ℤ y *ℤ q) (quotient x y)
op_value Min x y = Some (if int_lt y x then y else x)
op_value Max x y = Some (if int_lt y x then x else y)
op_value Less x y = Some (if int_lt x y then pos 1 else pos 0)
