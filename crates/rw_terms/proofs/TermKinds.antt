-- Terms that have a kind can be evaluated, and their values are of that kind.
use Rattle.std.proofs.Common.{◌≡◌, ℕ, ℤ, Bool, true, false, ◌&&◌, nat_lt, Option, Some, None, option_map, List, length, slice_get, refl, sym, ap, ◌∙◌, if◌then◌else◌}
use Rattle.std.proofs.lemmas.Bool.{and_parts}
use Rattle.rw_schema.specs.declared.atom.Atom.{Atom}
use Rattle.rw_schema.specs.declared.atom.Atom.TheVariants as atoms
use Rattle.rw_schema.specs.declared.atom.Kind.{Kind}
use Rattle.rw_schema.specs.declared.atom.Kind.TheVariants as kinds
use Rattle.rw_schema.specs.Atoms.{kind_of, is_same_kind}
use Rattle.rw_terms.specs.declared.code.OpCode.{OpCode}
use Rattle.rw_terms.specs.declared.term.Term.{Term, Term-F, fold-roll-Term, ind-Term, roll-Term}
use Rattle.rw_terms.specs.declared.term.Term.TheFolds.{map-Term}
use Rattle.rw_terms.specs.OpValues.{op_value}
use Rattle.rw_terms.specs.TermKinds.{has_only_variables, variables_step, is_number_kind, kind_of_term, kind_step}
use Rattle.rw_terms.specs.Terms.{Fit, applied, fit_of, fit_step, is_evaluable, is_number, number_in, value_of, value_step}
use Rattle.rw_terms.proofs.TermValues.{fit}

-- each variable with the property has a value of its kind
abbrev pub HaveKinds : (ℕ → Bool) → List Kind → List Atom → Type 0
HaveKinds has variables values = (variable : ℕ) (kind : Kind) → has variable ≡ true → slice_get variables variable ≡ Some kind
    → (atom : Atom) × (slice_get values variable ≡ Some atom) × (kind_of atom ≡ kind)

-- the term is evaluable, it is known whether its value is a number, and its value is of the kind
pub record IsOfKind (codes : List OpCode) (values : List Atom) (term : Term) (kind : Kind) : Type 0 where
  pub fits : is_evaluable codes values term ≡ true
  pub number : (fit codes values term).is_number ≡ is_same_kind kind kinds.Int
  pub value : (atom : Atom) → value_of codes values term ≡ Some atom → kind_of atom ≡ kind

-- where its variables have the property, a term that has a kind is of it
abbrev KeepsKind : (ℕ → Bool) → List Kind → List OpCode → List Atom → Term → Type 0
KeepsKind has variables codes values term =
    has_only_variables has term ≡ true → (kind : Kind) → kind_of_term (length codes) variables term ≡ Some kind → IsOfKind codes values term kind

-- an atom is a number exactly where its kind is that of numbers
number_from_kind : (atom : Atom) → is_number atom ≡ is_same_kind (kind_of atom) kinds.Int
number_from_kind (atoms.Int number) = refl
number_from_kind (atoms.Text text) = refl
number_from_kind (atoms.Bool truth) = refl

-- a kind that is there and that of numbers
number_kind : (kind : Option Kind) → is_number_kind kind ≡ true → (own : Kind) × (kind ≡ Some own) × (is_same_kind own kinds.Int ≡ true)
number_kind None is = cc
number_kind (Some kind) is = (kind, refl, is)

-- where something was chosen, the test passed
some_chosen : (test : Bool) (one other : Kind) → (if test then Some one else None) ≡ Some other → (test ≡ true) × (one ≡ other)
some_chosen true one other is = (refl, cc)
some_chosen false one other is = cc

-- an operation gives numbers
applied_number : (code : Option OpCode) (x y : Option ℤ) (atom : Atom) → applied code x y ≡ Some atom → kind_of atom ≡ kinds.Int
applied_number None x y atom is = cc
applied_number (Some code) None y atom is = cc
applied_number (Some code) (Some x) None atom is = cc
applied_number (Some code) (Some x) (Some y) atom is = given (op_value code x y) is
  where
    given : (number : Option ℤ) → option_map atoms.Int number ≡ Some atom → kind_of atom ≡ kinds.Int
    given None is = cc
    given (Some number) is =
        let same : atoms.Int number ≡ atom = cc in
        ap kind_of (sym same)

-- a constant is of its kind
keeps_constant : (has : ℕ → Bool) (variables : List Kind) (codes : List OpCode) (values : List Atom) (atom : Atom)
    → KeepsKind has variables codes values (roll-Term (Term-F.Const atom))
keeps_constant has variables codes values atom closed kind is =
    let kind_is : Some (kind_of atom) ≡ Some kind = sym (fold-roll-Term (Option Kind) (kind_step (length codes) variables) (Term-F.Const atom)) ∙ is in
    let same : kind_of atom ≡ kind = cc in
    let known = fold-roll-Term Fit (fit_step codes values) (Term-F.Const atom) in
    record {
      fits = ap (λ (f : Fit). f.fits) known;
      number = ap (λ (f : Fit). f.is_number) known ∙ number_from_kind atom ∙ ap (λ kind. is_same_kind kind kinds.Int) same;
      value = λ other value_is.
          let one : Some atom ≡ Some other = sym (fold-roll-Term (Option Atom) (value_step codes values) (Term-F.Const atom)) ∙ value_is in
          let equal : atom ≡ other = cc in
          ap kind_of (sym equal) ∙ same;
    }

-- a variable has a value of its kind
keeps_variable : (has : ℕ → Bool) (variables : List Kind) (codes : List OpCode) (values : List Atom) → HaveKinds has variables values → (variable : ℕ)
    → KeepsKind has variables codes values (roll-Term (Term-F.Var variable))
keeps_variable has variables codes values have variable closed kind is =
    let bound : has variable ≡ true = sym (fold-roll-Term Bool (variables_step has) (Term-F.Var variable)) ∙ closed in
    let kind_is : slice_get variables variable ≡ Some kind = sym (fold-roll-Term (Option Kind) (kind_step (length codes) variables) (Term-F.Var variable)) ∙ is in
    let given = have variable kind bound kind_is in
    let known : fit codes values (roll-Term (Term-F.Var variable)) ≡ fit_of (Some given.0) =
    fold-roll-Term Fit (fit_step codes values) (Term-F.Var variable) ∙ ap fit_of given.1 in
    record {
      fits = ap (λ (f : Fit). f.fits) known;
      number = ap (λ (f : Fit). f.is_number) known ∙ number_from_kind given.0 ∙ ap (λ kind. is_same_kind kind kinds.Int) given.2;
      value = λ other value_is.
          let one : Some given.0 ≡ Some other = sym given.1 ∙ sym (fold-roll-Term (Option Atom) (value_step codes values) (Term-F.Var variable)) ∙ value_is in
          let equal : given.0 ≡ other = cc in
          ap kind_of (sym equal) ∙ given.2;
    }

-- an operation on terms of the kind of numbers is of that kind
keeps_operation : (has : ℕ → Bool) (variables : List Kind) (codes : List OpCode) (values : List Atom) (op : ℕ) (first second : Term)
    → KeepsKind has variables codes values first → KeepsKind has variables codes values second
    → KeepsKind has variables codes values (roll-Term (Term-F.Op op first second))
keeps_operation has variables codes values op first second keeps_first keeps_second closed kind is =
    let count : ℕ = length codes in
    let first_kind : Option Kind = kind_of_term count variables first in
    let second_kind : Option Kind = kind_of_term count variables second in
    let closed_both = and_parts (has_only_variables has first) (has_only_variables has second)
    (sym (fold-roll-Term Bool (variables_step has) (Term-F.Op op first second)) ∙ closed) in
    let chosen = some_chosen (nat_lt op count && is_number_kind first_kind && is_number_kind second_kind) kinds.Int kind
    (sym (fold-roll-Term (Option Kind) (kind_step count variables) (Term-F.Op op first second)) ∙ is) in
    let numbers = and_parts (nat_lt op count && is_number_kind first_kind) (is_number_kind second_kind) chosen.0 in
    let there = and_parts (nat_lt op count) (is_number_kind first_kind) numbers.0 in
    let one = number_kind first_kind there.1 in
    let other = number_kind second_kind numbers.1 in
    let first_is : IsOfKind codes values first one.0 = keeps_first closed_both.0 one.0 one.1 in
    let second_is : IsOfKind codes values second other.0 = keeps_second closed_both.1 other.0 other.1 in
    let known = fold-roll-Term Fit (fit_step codes values) (Term-F.Op op first second) in
    record {
      fits = ap (λ (f : Fit). f.fits) known ∙ rw (there.0, first_is.fits, first_is.number, one.2, second_is.fits, second_is.number, other.2) refl;
      number = ap (λ (f : Fit). f.is_number) known ∙ ap (λ kind. is_same_kind kind kinds.Int) chosen.1;
      value = λ atom value_is.
          applied_number (slice_get codes op) (number_in (value_of codes values first)) (number_in (value_of codes values second)) atom
          (sym (fold-roll-Term (Option Atom) (value_step codes values) (Term-F.Op op first second)) ∙ value_is)
          ∙ chosen.1;
    }

-- a term whose variables have values of their kinds is of the kind that it has
pub is_of_kind : (has : ℕ → Bool) (variables : List Kind) (codes : List OpCode) (values : List Atom) → HaveKinds has variables values
    → (term : Term) → has_only_variables has term ≡ true → (kind : Kind) → kind_of_term (length codes) variables term ≡ Some kind → IsOfKind codes values term kind
is_of_kind has variables codes values have = ind-Term (KeepsKind has variables codes values) level
  where
    level : (x : Term-F Term) (y : Term-F ((t : Term) × KeepsKind has variables codes values t))
        → map-Term ((t : Term) × KeepsKind has variables codes values t) Term (λ e. e.0) y ≡ x → KeepsKind has variables codes values (roll-Term x)
    level x (Term-F.Const atom) is = rw (← is) (keeps_constant has variables codes values atom)
    level x (Term-F.Var variable) is = rw (← is) (keeps_variable has variables codes values have variable)
    level x (Term-F.Op op first second) is = rw (← is) (keeps_operation has variables codes values op first.0 second.0 first.1 second.1)
