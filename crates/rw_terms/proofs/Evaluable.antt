-- What the premise of an evaluation says of a term's variables.
use Rattle.std.proofs.Common.{◌≡◌, ℕ, zero, suc, ◌<◌, true, List, [], ◌∷◌, length, slice_get, sym, ap, ◌∙◌, arith}
use Rattle.rw_schema.specs.declared.atom.Atom.{Atom}
use Rattle.rw_terms.specs.declared.code.OpCode.{OpCode}
use Rattle.rw_terms.specs.declared.term.Term.TheVariants.{Var}
use Rattle.rw_terms.specs.Terms.{Fit, fit_of, is_evaluable}
use Rattle.rw_terms.proofs.TermValues.{fit_of_variable}

-- a variable that fits has a value
fitting_within : (values : List Atom) (variable : ℕ) → (fit_of (slice_get values variable)).fits ≡ true → variable < length values
fitting_within [] variable fits = cc
fitting_within (value ∷ values) zero fits = omega arith
fitting_within (value ∷ values) (suc variable) fits =
    let within : variable < length values = fitting_within values variable fits in
    omega arith

-- a variable that is evaluable has a value
pub variable_within : (codes : List OpCode) (values : List Atom) (variable : ℕ) → is_evaluable codes values (Var variable) ≡ true → variable < length values
variable_within codes values variable evaluable =
    fitting_within values variable (sym (ap (λ (f : Fit). f.fits) (fit_of_variable codes values variable)) ∙ evaluable)
