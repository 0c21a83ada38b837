-- Each match of a rule in the instance of lists has one verdict.
use Rattle.std.proofs.Common.{◌≡◌, ◌<◌, ℕ, Contains, List, length, None, true}
use Rattle.rw_schema.specs.RowLists.{RowLists, list_at}
use Rattle.rw_schema.specs.Signature.{Signature, IsCategory}
use Rattle.rw_spec.specs.Instance.{instance_of}
use Rattle.rw_table.specs.TableFaults.{table_fault}
use Rattle.rw_table.proofs.Checked.{checked_known, names_ascend}
use Rattle.rw_table.proofs.TableInstance.{table_instance}
use Rattle.rw_terms.specs.declared.code.OpCode.{OpCode}
use Rattle.rw_rule.specs.RuleFaults.{IsRuleOver}
use Rattle.rw_rule.specs.RuleLists.{RuleLists}
use Rattle.rw_rule.specs.declared.kind.RuleKind.TheVariants.{Dpo}
use Rattle.rw_columns.proofs.Lists.{name_in_bound, names_known}
use Rattle.rw_lists.specs.Fresh.{fresh_list}
use Rattle.rw_local.specs.OneVerdict.{HasOneVerdict, IsHost}
use Rattle.rw_local.proofs.OneVerdict.{one_verdict}

-- the instance of lists without a fault can be a host
pub host_of : (C : Signature) (rows : RowLists) → table_fault C rows ≡ None → IsHost C (instance_of C rows) rows.next
host_of C rows sound = record {
  instance = table_instance C rows sound;
  ascends = λ object known. names_ascend rows object (checked_known C rows sound).names;
  below = λ object x known has. name_in_bound _ (list_at rows.names object) x (names_known C rows object sound known) has;
}

-- each match of a double-pushout rule has one verdict there
pub verdict_at : (C : Signature) → IsCategory C → (codes : List OpCode) (rule : RuleLists) → IsRuleOver C (length codes) rule → rule.kind ≡ Dpo → (rows : RowLists)
    → table_fault C rows ≡ None → (tuple : List ℕ) → Contains (fresh_list C (instance_of C rows) rule.goal) tuple
    → HasOneVerdict C codes rule (instance_of C rows) rows.next tuple
verdict_at C category codes rule over dpo rows sound tuple matched =
    one_verdict C category codes rule over dpo (instance_of C rows) rows.next tuple (host_of C rows sound) matched
