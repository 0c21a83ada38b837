-- The step of a double-pushout rule at a match.
use Rattle.std.specs.Prelude.{◌≡◌, ℕ, List, None, Contains}
use Rattle.rw_schema.specs.RowLists.{RowLists}
use Rattle.rw_schema.specs.Signature.{Signature}
use Rattle.rw_spec.specs.Instance.{Instance, instance_of}
use Rattle.rw_table.specs.TableFaults.{table_fault}
use Rattle.rw_pattern.specs.MapFaults.{image_of}
use Rattle.rw_pattern.specs.Matches.{matches}
use Rattle.rw_terms.specs.declared.code.OpCode.{OpCode}
use Rattle.rw_rule.specs.RuleLists.{RuleLists}
use Rattle.rw_complement.specs.Named.{IsDoublePushout}
use Rattle.rw_redex.specs.Instantiated.{redex_of, right_at}
use Rattle.rw_redex.specs.Verdicts.{early}

-- the tuple is a match of the rule in X, nothing is in its way before atoms are compared, and the lists after it are an
-- instance that is the double pushout, with its next names
pub record IsStep (C : Signature) (codes : List OpCode) (rule : RuleLists) (X : Instance) (next tuple : List ℕ) (after : RowLists) : Type 0 where
  pub matched : Contains (matches C rule.goal.left rule.goal.monic X) tuple
  pub unobstructed : early C codes rule tuple X next ≡ None
  pub sound : table_fault C after ≡ None
  pub pushout : IsDoublePushout C (redex_of rule tuple X) (right_at codes rule tuple X) (image_of rule.r) next (instance_of C after) after.next
