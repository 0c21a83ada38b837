-- The step of a single-pushout rule at a match.
use Rattle.std.specs.Prelude.{◌≡◌, ℕ, List, None, Contains}
use Rattle.rw_schema.specs.RowLists.{RowLists}
use Rattle.rw_schema.specs.Signature.{Signature}
use Rattle.rw_spec.specs.Instance.{Instance, instance_of}
use Rattle.rw_table.specs.TableFaults.{table_fault}
use Rattle.rw_pattern.specs.Matches.{matches}
use Rattle.rw_terms.specs.declared.code.OpCode.{OpCode}
use Rattle.rw_rule.specs.RuleLists.{RuleLists}
use Rattle.rw_partial.specs.Named.{IsSinglePushout}
use Rattle.rw_single.specs.Instantiated.{applied_of}
use Rattle.rw_single.specs.Obstructions.{early_pair}

-- the tuple is a match of the rule in X, the lists after it are an instance that is the single pushout, with its next names, and
-- nothing is in its way before atoms are compared
pub record IsSingleStep (C : Signature) (codes : List OpCode) (rule : RuleLists) (X : Instance) (next tuple : List ℕ) (after : RowLists) : Type 0 where
  pub matched : Contains (matches C rule.goal.left rule.goal.monic X) tuple
  pub sound : table_fault C after ≡ None
  pub pushout : IsSinglePushout C (applied_of codes rule tuple X) next (instance_of C after) after.next
  pub unobstructed : early_pair C codes rule tuple X next pushout.right ≡ None
