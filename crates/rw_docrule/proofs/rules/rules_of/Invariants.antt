-- All that is read is what is read of the items that are left, behind what was read so far.
use Rattle.std.proofs.Common.{◌≡◌, length, map, All}
use Rattle.rw_schema.specs.Presentation.{signature_of}
use Rattle.rw_terms.specs.OpEntries.{entries}
use Rattle.rw_rule.specs.RuleParts.{rule_of_parts}
use Rattle.rw_doc.proofs.Readings.{ReadBehind}
use Rattle.rw_docrule.specs.Known.{IsRuleUnlessCyclic}
use Rattle.rw_docrule.specs.Reads.{rule_read}
use Rattle.rw_docrule.specs.Rules as spec
use Rattle.rw_docrule.proofs.rules.rules_of.Given as goal

abbrev pub invariant-loop-place : goal.invariant-loop-place
invariant-loop-place g l = record {
  gives : ReadBehind (spec.read_rule l.schema (entries l.ops)) l.items l.place (map rule_read l.rules.items);
  known : All (λ read. IsRuleUnlessCyclic (signature_of l.schema) (length (entries l.ops)) (rule_of_parts read.parts)) l.rules.items;
  names : l.names ≡ spec.names_of_rules (map rule_read l.rules.items);
  long : length l.rules.items ≡ l.place;
}
