-- Small cases of the definitions: what operations give at the ends of their range, and values of terms.
use Rattle.std.proofs.Common.{◌≡◌, ◌^◌, ◌-◌, Some, None, List, [], ◌∷◌, true, false, pos, neg_ℤ, refl, ap, ◌∙◌}
use Rattle.rw_schema.specs.declared.atom.Atom.{Atom}
use Rattle.rw_schema.specs.declared.atom.Atom.TheVariants as atoms
use Rattle.rw_terms.specs.declared.code.OpCode.{OpCode}
use Rattle.rw_terms.specs.declared.code.OpCode.TheVariants.{Add, Sub, Mul, Div, Rem, Min, Max, Less}
use Rattle.rw_terms.specs.declared.term.Term.{Term}
use Rattle.rw_terms.specs.declared.term.Term.TheVariants as terms
use Rattle.rw_terms.specs.OpValues.{op_value}
use Rattle.rw_terms.specs.Terms.{Fit, value_of, is_evaluable}
use Rattle.rw_terms.proofs.TermValues.{value_of_constant, value_of_variable, value_from_operands, fit_of_constant, fit_of_variable, fit_of_operation}

-- the greatest number and 1 have no sum
no_greater : op_value Add (pos (2 ^ 63 - 1)) (pos 1) ≡ None
no_greater = refl

-- nothing stands below the least number
no_less : op_value Sub (neg_ℤ (pos (2 ^ 63))) (pos 1) ≡ None
no_less = refl

-- the least number is a sum
least_sum : op_value Add (neg_ℤ (pos (2 ^ 63 - 1))) (neg_ℤ (pos 1)) ≡ Some (neg_ℤ (pos (2 ^ 63)))
least_sum = refl

-- the least number has no negative
no_negative : op_value Mul (neg_ℤ (pos (2 ^ 63))) (neg_ℤ (pos 1)) ≡ None
no_negative = refl

-- the least number by -1 is out of range
no_quotient : op_value Div (neg_ℤ (pos (2 ^ 63))) (neg_ℤ (pos 1)) ≡ None
no_quotient = refl

-- and has no remainder
no_remainder : op_value Rem (neg_ℤ (pos (2 ^ 63))) (neg_ℤ (pos 1)) ≡ None
no_remainder = refl

-- nothing is divided by 0
by_zero : op_value Div (pos 5) (pos 0) ≡ None
by_zero = refl

-- nor leaves a remainder
rest_by_zero : op_value Rem (pos 5) (pos 0) ≡ None
rest_by_zero = refl

-- a quotient is rounded toward zero
toward_zero : op_value Div (neg_ℤ (pos 7)) (pos 2) ≡ Some (neg_ℤ (pos 3))
toward_zero = refl

-- a remainder has the sign of the first number
sign_of_first : op_value Rem (neg_ℤ (pos 7)) (pos 2) ≡ Some (neg_ℤ (pos 1))
sign_of_first = refl

-- and not that of the second
not_of_second : op_value Rem (pos 7) (neg_ℤ (pos 2)) ≡ Some (pos 1)
not_of_second = refl

-- the lesser of two numbers
lesser : op_value Min (neg_ℤ (pos 4)) (pos 3) ≡ Some (neg_ℤ (pos 4))
lesser = refl

-- the greater of two numbers
greater : op_value Max (neg_ℤ (pos 4)) (pos 3) ≡ Some (pos 3)
greater = refl

-- a number is less than a greater one
is_less : op_value Less (neg_ℤ (pos 1)) (pos 0) ≡ Some (pos 1)
is_less = refl

-- a number is not less than itself
not_less : op_value Less (pos 4) (pos 4) ≡ Some (pos 0)
not_less = refl

-- operations and values that the terms below speak of
abbrev codes : List OpCode
codes = Sub ∷ Add ∷ []

abbrev values : List Atom
values = atoms.Bool true ∷ atoms.Int (pos 4) ∷ []

-- 4 + 3, of a variable and a constant
sum_of_two : (first second : Term) → first ≡ terms.Var 1 → second ≡ terms.Const (atoms.Int (pos 3))
    → value_of codes values (terms.Op 1 first second) ≡ Some (atoms.Int (pos 7))
sum_of_two first second variable constant =
    value_from_operands codes values 1 first second (Some (atoms.Int (pos 4))) (Some (atoms.Int (pos 3)))
    (rw variable (value_of_variable codes values 1)) (rw constant (value_of_constant codes values (atoms.Int (pos 3))))

-- (4 + 3) - 9, of an operation and a constant
difference_of_sum : (first second sum third : Term) → first ≡ terms.Var 1 → second ≡ terms.Const (atoms.Int (pos 3))
    → sum ≡ terms.Op 1 first second → third ≡ terms.Const (atoms.Int (pos 9))
    → value_of codes values (terms.Op 0 sum third) ≡ Some (atoms.Int (neg_ℤ (pos 2)))
difference_of_sum first second sum third variable constant operation last =
    value_from_operands codes values 0 sum third (Some (atoms.Int (pos 7))) (Some (atoms.Int (pos 9)))
    (rw operation (sum_of_two first second variable constant)) (rw last (value_of_constant codes values (atoms.Int (pos 9))))

-- a sum out of range has no value, and neither has what it is an operand of
no_value_within : (first second sum third : Term) → first ≡ terms.Var 1 → second ≡ terms.Const (atoms.Int (pos (2 ^ 63 - 1)))
    → sum ≡ terms.Op 1 first second → third ≡ terms.Const (atoms.Int (pos 9)) → value_of codes values (terms.Op 0 sum third) ≡ None
no_value_within first second sum third variable constant operation last =
    let greatest : value_of codes values second ≡ Some (atoms.Int (pos (2 ^ 63 - 1))) =
    rw constant (value_of_constant codes values (atoms.Int (pos (2 ^ 63 - 1)))) in
    let out_of_range : value_of codes values (terms.Op 1 first second) ≡ None =
    value_from_operands codes values 1 first second (Some (atoms.Int (pos 4))) (Some (atoms.Int (pos (2 ^ 63 - 1))))
    (rw variable (value_of_variable codes values 1)) greatest in
    value_from_operands codes values 0 sum third None (Some (atoms.Int (pos 9)))
    (rw operation out_of_range) (rw last (value_of_constant codes values (atoms.Int (pos 9))))

-- a variable with no value is not evaluable
unbound : is_evaluable codes values (terms.Var 2) ≡ false
unbound = ap (λ (known : Fit). known.fits) (fit_of_variable codes values 2)

-- an operation on numbers is evaluable
on_numbers : (first second : Term) → first ≡ terms.Var 1 → second ≡ terms.Const (atoms.Int (pos 3))
    → is_evaluable codes values (terms.Op 1 first second) ≡ true
on_numbers first second variable constant =
    ap (λ (known : Fit). known.fits) (fit_of_operation codes values 1 first second)
    ∙ rw (variable, constant, fit_of_variable codes values 1, fit_of_constant codes values (atoms.Int (pos 3))) refl

-- an operation on a truth is not
on_truth : (first second : Term) → first ≡ terms.Var 0 → is_evaluable codes values (terms.Op 1 first second) ≡ false
on_truth first second variable =
    ap (λ (known : Fit). known.fits) (fit_of_operation codes values 1 first second) ∙ rw (variable, fit_of_variable codes values 0) refl
