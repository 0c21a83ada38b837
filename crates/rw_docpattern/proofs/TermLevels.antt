-- Terms, level by level.
use Rattle.std.proofs.Common.{◌≡◌, ◌∙◌, ◌-◌, ◌<◌, ℕ, zero, suc, Bool, true, false, Option, Some, None, List, [], ◌∷◌, codes, option_and_then, if◌then◌else◌, refl, ap, arith}
use Rattle.serde_json.specs.Data.{Data}
use Rattle.serde_json.specs.Find.{as_str, get}
use Rattle.rw_schema.specs.First.{or_else}
use Rattle.rw_doc.specs.Json.{as_list, has_only}
use Rattle.rw_docpattern.specs.declared.term.WrittenTerm.{WrittenTerm}
use Rattle.rw_docpattern.specs.Operations.{OperationTexts, leaf_of, on_values, operation_on, operation_texts}
use Rattle.rw_docpattern.specs.Terms.{most_nesting, on_operands, operation_of, term_within, variable_of}

-- the operation that texts are, with terms that are read of its operands
abbrev pub operation_read : (Data → Option WrittenTerm) → OperationTexts → Option WrittenTerm
operation_read read texts = operation_on texts.name (read texts.first) (read texts.second)

-- two values are read as the operands
on_two : (read : Data → Option WrittenTerm) (name : List ℕ) (values : List Data)
    → on_operands read name values ≡ option_and_then (operation_read read) (on_values name values)
on_two read name [] = refl
on_two read name (first ∷ []) = refl
on_two read name (first ∷ second ∷ []) = refl
on_two read name (first ∷ second ∷ third ∷ others) = refl

-- the operation is read of a name and of values, where they are there
on_written : (read : Data → Option WrittenTerm) (only : Bool) (name : Option (List ℕ)) (values : Option (List Data))
    → (if only then option_and_then (λ name. option_and_then (on_operands read name) values) name else None)
    ≡ option_and_then (operation_read read) (if only then option_and_then (λ name. option_and_then (on_values name) values) name else None)
on_written read false name values = refl
on_written read true None values = refl
on_written read true (Some name) None = refl
on_written read true (Some name) (Some values) = on_two read name values

-- the operation is read of its texts
operation_is : (read : Data → Option WrittenTerm) (value : Data) → operation_of read value ≡ option_and_then (operation_read read) (operation_texts value)
operation_is read value =
    on_written read (has_only (codes "args" ∷ codes "op" ∷ []) value) (option_and_then as_str (get (codes "op") value))
    (option_and_then as_list (get (codes "args") value))

-- the first of three answers
or_else_assoc : {A : Type 0} (first second third : Option A) → or_else first (or_else second third) ≡ or_else (or_else first second) third
or_else_assoc None second third = refl
or_else_assoc (Some x) second third = refl

-- no value is a term without a level
pub none_within : (value : Data) → term_within zero value ≡ None
unfolding term_within
none_within value = refl

-- a term with a level more is an atom, a variable, or an operation on terms without it
more_within : (levels : ℕ) (value : Data) → term_within (suc levels) value ≡ or_else (leaf_of value) (operation_of (term_within levels) value)
unfolding term_within
more_within levels value = or_else_assoc _ (variable_of value) _

-- a term with some levels is an atom, a variable, or an operation on terms with one less
pub level_within : (levels : ℕ) (value : Data) → 0 < levels
    → term_within levels value ≡ or_else (leaf_of value) (option_and_then (operation_read (term_within (levels - 1))) (operation_texts value))
level_within zero value some = let no : ⊥ = omega arith in absurd no
level_within (suc levels) value some =
    let less : suc levels - 1 ≡ levels = omega arith in
    rw less (more_within levels value ∙ ap (or_else (leaf_of value)) (operation_is (term_within levels) value))

-- values nest in so many levels at most
pub nesting_is : most_nesting ≡ 127
unfolding most_nesting
nesting_is = refl
