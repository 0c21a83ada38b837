-- The value of a term, where its variables have values and its operations have codes.
use Rattle.std.specs.Prelude.{ℤ, Bool, true, false, ◌&&◌, nat_lt, length, List, Option, Some, None, option_map, option_and_then, slice_get}
use Rattle.rw_schema.specs.declared.atom.Atom.{Atom}
use Rattle.rw_schema.specs.declared.atom.Atom.TheVariants as atoms
use Rattle.rw_terms.specs.declared.code.OpCode.{OpCode}
use Rattle.rw_terms.specs.declared.term.Term.{Term, fold-Term}
use Rattle.rw_terms.specs.declared.term.Term.TheOpen.{Term-F}
use Rattle.rw_terms.specs.OpValues.{op_value}

-- the number that an atom is
abbrev pub number_of : Atom → Option ℤ
number_of (atoms.Int number) = Some number
number_of (atoms.Text text) = None
number_of (atoms.Bool truth) = None

-- the number that a value is, if one is there
abbrev pub number_in : Option Atom → Option ℤ
number_in value = option_and_then number_of value

-- the value of an operation on the values of its operands: it has none where an operand has none, or where it gives nothing
abbrev pub applied : Option OpCode → Option ℤ → Option ℤ → Option Atom
applied code x y = option_and_then (λ code. option_and_then (λ x. option_and_then (λ y. option_map atoms.Int (op_value code x y)) y) x) code

-- one level of a term
abbrev pub value_step : List OpCode → List Atom → Term-F (Option Atom) → Option Atom
value_step codes values (Term-F.Const atom) = Some atom
value_step codes values (Term-F.Var variable) = slice_get values variable
value_step codes values (Term-F.Op op first second) = applied (slice_get codes op) (number_in first) (number_in second)

-- the value of a term: a constant has itself, a variable its value, an operation what it gives
abbrev pub value_of : List OpCode → List Atom → Term → Option Atom
value_of codes values = fold-Term (Option Atom) (value_step codes values)

-- ---- the terms that have a value but where an operation gives nothing

-- what is known of a term: whether its numbers are there and its operands are numbers, and whether its own value is a number
pub record Fit : Type 0 where
  pub fits : Bool
  pub is_number : Bool

abbrev pub is_number : Atom → Bool
is_number (atoms.Int number) = true
is_number (atoms.Text text) = false
is_number (atoms.Bool truth) = false

abbrev pub fit_of : Option Atom → Fit
fit_of None = record { fits = false; is_number = false }
fit_of (Some atom) = record { fits = true; is_number = is_number atom }

abbrev pub fit_step : List OpCode → List Atom → Term-F Fit → Fit
fit_step codes values (Term-F.Const atom) = record { fits = true; is_number = is_number atom }
fit_step codes values (Term-F.Var variable) = fit_of (slice_get values variable)
fit_step codes values (Term-F.Op op first second) = record {
  fits = nat_lt op (length codes) && first.fits && first.is_number && second.fits && second.is_number;
  is_number = true;
}

-- each variable has a value, each operation is there, and each operand is a number
abbrev pub is_evaluable : List OpCode → List Atom → Term → Bool
is_evaluable codes values term = (fold-Term Fit (fit_step codes values) term).fits
