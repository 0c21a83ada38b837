-- The value of a term, and what is known of it, by its three forms.
use Rattle.std.proofs.Common.{◌≡◌, ℕ, Option, Some, true, ◌&&◌, nat_lt, List, length, slice_get, refl, sym, ap, ◌∙◌}
use Rattle.rw_schema.specs.declared.atom.Atom.{Atom}
use Rattle.rw_terms.specs.declared.code.OpCode.{OpCode}
use Rattle.rw_terms.specs.declared.term.Term.{Term, Term-F, fold-Term, fold-roll-Term}
use Rattle.rw_terms.specs.declared.term.Term.TheVariants.{Const, Var, Op, rolls-Const, rolls-Var, rolls-Op}
use Rattle.rw_terms.specs.Terms.{Fit, applied, fit_of, fit_step, is_number, number_in, value_of, value_step}

-- a constant is its own value
pub value_of_constant : (codes : List OpCode) (values : List Atom) (atom : Atom) → value_of codes values (Const atom) ≡ Some atom
value_of_constant codes values atom =
    ap (value_of codes values) (sym (rolls-Const atom)) ∙ fold-roll-Term (Option Atom) (value_step codes values) (Term-F.Const atom)

-- a variable has the value that was given it
pub value_of_variable : (codes : List OpCode) (values : List Atom) (variable : ℕ) → value_of codes values (Var variable) ≡ slice_get values variable
value_of_variable codes values variable =
    ap (value_of codes values) (sym (rolls-Var variable)) ∙ fold-roll-Term (Option Atom) (value_step codes values) (Term-F.Var variable)

-- an operation has what it gives of its operands' values
pub value_of_operation : (codes : List OpCode) (values : List Atom) (op : ℕ) (first second : Term)
    → value_of codes values (Op op first second)
    ≡ applied (slice_get codes op) (number_in (value_of codes values first)) (number_in (value_of codes values second))
value_of_operation codes values op first second =
    ap (value_of codes values) (sym (rolls-Op op first second)) ∙ fold-roll-Term (Option Atom) (value_step codes values) (Term-F.Op op first second)

-- the same, where the values of the operands are known
pub value_from_operands : (codes : List OpCode) (values : List Atom) (op : ℕ) (first second : Term) (x y : Option Atom)
    → value_of codes values first ≡ x → value_of codes values second ≡ y
    → value_of codes values (Op op first second) ≡ applied (slice_get codes op) (number_in x) (number_in y)
value_from_operands codes values op first second x y first_is second_is = value_of_operation codes values op first second ∙ rw (first_is, second_is) refl

-- what is known of a term
abbrev pub fit : List OpCode → List Atom → Term → Fit
fit codes values = fold-Term Fit (fit_step codes values)

-- a constant fits
pub fit_of_constant : (codes : List OpCode) (values : List Atom) (atom : Atom)
    → fit codes values (Const atom) ≡ record { fits = true; is_number = is_number atom }
fit_of_constant codes values atom =
    ap (fit codes values) (sym (rolls-Const atom)) ∙ fold-roll-Term Fit (fit_step codes values) (Term-F.Const atom)

-- a variable fits where it has a value
pub fit_of_variable : (codes : List OpCode) (values : List Atom) (variable : ℕ)
    → fit codes values (Var variable) ≡ fit_of (slice_get values variable)
fit_of_variable codes values variable =
    ap (fit codes values) (sym (rolls-Var variable)) ∙ fold-roll-Term Fit (fit_step codes values) (Term-F.Var variable)

-- an operation fits where its number is one of a code and both operands fit and are numbers
pub fit_of_operation : (codes : List OpCode) (values : List Atom) (op : ℕ) (first second : Term)
    → fit codes values (Op op first second) ≡ record {
      fits = nat_lt op (length codes) && (fit codes values first).fits && (fit codes values first).is_number
          && (fit codes values second).fits && (fit codes values second).is_number;
      is_number = true;
    }
fit_of_operation codes values op first second =
    ap (fit codes values) (sym (rolls-Op op first second)) ∙ fold-roll-Term Fit (fit_step codes values) (Term-F.Op op first second)
