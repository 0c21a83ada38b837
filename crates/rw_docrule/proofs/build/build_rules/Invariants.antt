-- All are built where those that are left are, and these stand behind those that were built.
use Rattle.std.proofs.Common.{◌≡◌, ◌+◌, All, true, length, map}
use Rattle.std.specs.Vec.Iter.{into_iter_items}
use Rattle.rw_schema.specs.Presentation.{signature_of}
use Rattle.rw_terms.specs.OpEntries.{entries}
use Rattle.rw_rule.specs.RuleFaults.{IsRuleOver}
use Rattle.rw_rule.specs.RuleParts.{rule_of_parts}
use Rattle.rw_docrule.specs.Built.{is_built_rule}
use Rattle.rw_docrule.specs.Known.{IsRuleUnlessCyclic}
use Rattle.rw_docrule.specs.Reads.{rule_read}
use Rattle.rw_docrule.proofs.BuiltRules.{BuiltSo}
use Rattle.rw_docrule.proofs.build.build_rules.Given as goal

abbrev pub invariant-loop-read : goal.invariant-loop-read
invariant-loop-read g l = record {
  gives : BuiltSo (map rule_read l.fn.reads.items) l.rules.items (map rule_read (into_iter_items l.read-iterator));
  known : All (λ read. IsRuleUnlessCyclic (signature_of l.schema) (length (entries l.ops)) (rule_of_parts read.parts)) (into_iter_items l.read-iterator);
  over : All (IsRuleOver (signature_of l.schema) (length (entries l.ops))) l.rules.items;
  built : All (λ rule. is_built_rule rule ≡ true) l.rules.items;
  long : length l.rules.items + length (into_iter_items l.read-iterator) ≡ length l.fn.reads.items;
}
