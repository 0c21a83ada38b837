-- What operations are written in, and the terms that they are.
use Rattle.std.specs.Prelude.{ℕ, codes, List, [], ◌∷◌, Option, Some, None, option_and_then, option_map, if◌then◌else◌}
use Rattle.serde_json.specs.Data.{Data}
use Rattle.serde_json.specs.Find.{as_str, get}
use Rattle.rw_schema.specs.First.{or_else}
use Rattle.rw_doc.specs.Json.{as_list, atom_of, has_only}
use Rattle.rw_docpattern.specs.declared.term.WrittenTerm.{WrittenTerm}
use Rattle.rw_docpattern.specs.declared.term.WrittenTerm.TheVariants.{Const, Op}
use Rattle.rw_docpattern.specs.Terms.{variable_of}

-- the name of an operation, and what its operands are written as
pub record OperationTexts : Type 0 where
  pub name : List ℕ
  pub first : Data
  pub second : Data

-- the name, and the two values
abbrev pub on_values : List ℕ → List Data → Option OperationTexts
on_values name [] = None
on_values name (first ∷ []) = None
on_values name (first ∷ second ∷ []) = Some (record { name = name; first = first; second = second })
on_values name (first ∷ second ∷ third ∷ others) = None

-- the name and the operands of the operation that a value is
abbrev pub operation_texts : Data → Option OperationTexts
operation_texts value =
    if has_only (codes "args" ∷ codes "op" ∷ []) value
    then option_and_then (λ name. option_and_then (on_values name) (option_and_then as_list (get (codes "args") value)))
    (option_and_then as_str (get (codes "op") value))
    else None

-- the operation on two terms, where both are there
abbrev pub operation_on : List ℕ → Option WrittenTerm → Option WrittenTerm → Option WrittenTerm
operation_on name first second = option_and_then (λ x. option_map (λ y. Op name x y) second) first

-- the atom or the variable that a value is
abbrev pub leaf_of : Data → Option WrittenTerm
leaf_of value = or_else (option_map Const (atom_of value)) (variable_of value)
