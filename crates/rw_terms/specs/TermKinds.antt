-- The kinds of terms, their depths, and the variables in them.
use Rattle.std.specs.Prelude.{ℕ, ◌+◌, max, Bool, true, false, ◌&&◌, nat_lt, List, Option, Some, None, slice_get, if◌then◌else◌}
use Rattle.rw_schema.specs.declared.atom.Kind.{Kind}
use Rattle.rw_schema.specs.declared.atom.Kind.TheVariants as kinds
use Rattle.rw_schema.specs.Atoms.{kind_of, is_same_kind}
use Rattle.rw_terms.specs.declared.term.Term.{Term, fold-Term}
use Rattle.rw_terms.specs.declared.term.Term.TheOpen.{Term-F}

-- one level of a term: each variable in it has the property
abbrev pub variables_step : (ℕ → Bool) → Term-F Bool → Bool
variables_step has (Term-F.Const atom) = true
variables_step has (Term-F.Var variable) = has variable
variables_step has (Term-F.Op op first second) = first && second

-- each variable of the term has the property
abbrev pub has_only_variables : (ℕ → Bool) → Term → Bool
has_only_variables has = fold-Term Bool (variables_step has)

-- the kind is there, and is that of numbers
abbrev pub is_number_kind : Option Kind → Bool
is_number_kind None = false
is_number_kind (Some kind) = is_same_kind kind kinds.Int

-- one level of a term, where so many operations are there and the variables have these kinds
abbrev pub kind_step : ℕ → List Kind → Term-F (Option Kind) → Option Kind
kind_step ops variables (Term-F.Const atom) = Some (kind_of atom)
kind_step ops variables (Term-F.Var variable) = slice_get variables variable
kind_step ops variables (Term-F.Op op first second) =
    if nat_lt op ops && is_number_kind first && is_number_kind second then Some kinds.Int else None

-- the kind of a term: none where a variable or an operation is not there, or an operand is no number
abbrev pub kind_of_term : ℕ → List Kind → Term → Option Kind
kind_of_term ops variables = fold-Term (Option Kind) (kind_step ops variables)

-- one level of a term
abbrev pub depth_step : Term-F ℕ → ℕ
depth_step (Term-F.Const atom) = 1
depth_step (Term-F.Var variable) = 1
depth_step (Term-F.Op op first second) = 1 + max first second

-- how many levels a term has: a constant and a variable have one
abbrev pub depth_of : Term → ℕ
depth_of = fold-Term ℕ depth_step
