-- A match has only one step.
use Rattle.std.proofs.Common.{◌≡◌, ℕ, List, length}
use Rattle.rw_schema.specs.RowLists.{RowLists}
use Rattle.rw_schema.specs.Signature.{Signature}
use Rattle.rw_spec.specs.Instance.{Instance, instance_of}
use Rattle.rw_pattern.specs.MapFaults.{image_of}
use Rattle.rw_terms.specs.declared.code.OpCode.{OpCode}
use Rattle.rw_rule.specs.RuleLists.{RuleLists}
use Rattle.rw_redex.proofs.RuleKnown.{IsKnown}
use Rattle.rw_redex.proofs.SetKinds.{IsMet}
use Rattle.rw_complement.proofs.Named.{only_double_pushout}
use Rattle.rw_redex.specs.Instantiated.{redex_of, right_at}
use Rattle.rw_redex.specs.Step.{IsStep}
use Rattle.rw_redex.proofs.Right.{right_instance}
use Rattle.rw_redex.proofs.SameRows.{same_rows}

-- two steps of a rule at a match are one, names and next names included
pub only_step : (C : Signature) (codes : List OpCode) (rule : RuleLists) (X : Instance) (next tuple : List ℕ) → IsKnown C (length codes) rule → IsMet C rule tuple X
    → (first second : RowLists) → IsStep C codes rule X next tuple first → IsStep C codes rule X next tuple second → first ≡ second
only_step C codes rule X next tuple known met first second is other =
    let same = only_double_pushout C met.category (redex_of rule tuple X) (right_at codes rule tuple X) (image_of rule.r) next
    (right_instance C codes rule tuple X known met) (instance_of C first) (instance_of C second) first.next second.next is.pushout other.pushout in
    same_rows C met.category first second is.sound other.sound same.0 same.1
