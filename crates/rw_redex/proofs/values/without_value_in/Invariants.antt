-- The first part without a value is the first of those that are left.
use Rattle.std.proofs.Common.{◌≡◌, ℕ, List, drop}
use Rattle.rw_schema.specs.First.{first_in}
use Rattle.rw_schema.specs.Presentation.{signature_of}
use Rattle.rw_spec.specs.Instance.{Instance}
use Rattle.rw_terms.specs.declared.code.OpCode.{OpCode}
use Rattle.rw_rule.specs.Images.{parts_of}
use Rattle.rw_redex.specs.SetValues.{set_values}
use Rattle.rw_redex.specs.SetValues.{no_value_on}
use Rattle.rw_redex.proofs.values.without_value_in.Given as goal

abbrev pub invariant-loop-part : goal.invariant-loop-part
invariant-loop-part l =
    let parts : List ℕ = parts_of l.rule.right l.object.0 in
    (codes : List OpCode) (tuple : List ℕ) (X : Instance) → l.values ≡ set_values codes l.rule tuple X
    → first_in (λ place part. no_value_on (signature_of l.schema) codes l.rule tuple X l.object.0 part) 0 parts
    ≡ first_in (λ place part. no_value_on (signature_of l.schema) codes l.rule tuple X l.object.0 part) l.part (drop l.part parts)
