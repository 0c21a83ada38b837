-- The first object with a set without a value is the first of those that are left.
use Rattle.std.proofs.Common.{◌≡◌, ℕ, List, drop}
use Rattle.rw_schema.specs.First.{first_in}
use Rattle.rw_schema.specs.Presentation.{signature_of}
use Rattle.rw_spec.specs.Instance.{Instance}
use Rattle.rw_terms.specs.declared.code.OpCode.{OpCode}
use Rattle.rw_rule.specs.Images.{parts_of}
use Rattle.rw_redex.specs.SetValues.{set_values}
use Rattle.rw_redex.specs.SetValues.{no_value, no_value_on}
use Rattle.rw_redex.proofs.values.first_without_value.Given as goal

abbrev pub invariant-loop-number : goal.invariant-loop-number
invariant-loop-number l =
    (codes : List OpCode) (tuple : List ℕ) (X : Instance) → l.values ≡ set_values codes l.rule tuple X
    → no_value (signature_of l.schema) codes l.rule tuple X
    ≡ first_in (λ object size. first_in (λ place part. no_value_on (signature_of l.schema) codes l.rule tuple X object part) 0 (parts_of l.rule.right object))
    l.number (drop l.number l.rule.right.sizes)
