-- The first attribute without a value is the first of those that are left.
use Rattle.std.proofs.Common.{◌≡◌, ◌==◌, ◌&&◌, ℕ, List, drop, not}
use Rattle.rw_schema.specs.declared.signature.AttrEnds.{AttrEnds}
use Rattle.rw_schema.specs.First.{first_in, fault_unless}
use Rattle.rw_schema.specs.Presentation.{signature_of}
use Rattle.rw_schema.specs.Signature.{Signature}
use Rattle.rw_spec.specs.Instance.{Instance}
use Rattle.rw_terms.specs.declared.code.OpCode.{OpCode}
use Rattle.rw_rule.specs.declared.refusal.Refusal.TheVariants.{NoValue}
use Rattle.rw_redex.specs.SetValues.{set_values}
use Rattle.rw_redex.specs.SetValues.{lacks_value, no_value_on}
use Rattle.rw_redex.proofs.values.without_value_on.Given as goal

abbrev pub invariant-loop-number : goal.invariant-loop-number
invariant-loop-number l =
    let C : Signature = signature_of l.schema in
    (codes : List OpCode) (tuple : List ℕ) (X : Instance) → l.values ≡ set_values codes l.rule tuple X
    → no_value_on C codes l.rule tuple X l.object.0 l.part
    ≡ first_in (λ attr (ends : AttrEnds). fault_unless (not (ends.object.0 == l.object.0 && lacks_value codes l.rule tuple X attr l.part)) (NoValue l.part (record { 0 = attr }))) l.number (drop l.number C.attributes)
