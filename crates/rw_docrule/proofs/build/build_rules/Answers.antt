-- The rule that was the first of those that are left is put behind the others.
use Rattle.std.proofs.Common.{◌≡◌, ◌∙◌, ◌+◌, true, List, [], ◌∷◌, length, map, ap, arith, length-append}
use Rattle.std.proofs.lemmas.List.Elements.{All-push, All-rest}
use Rattle.std.specs.Vec.Iter.{into_iter_items}
use Rattle.rw_schema.specs.Presentation.{signature_of}
use Rattle.rw_terms.specs.OpEntries.{entries}
use Rattle.rw_rule.specs.RuleFaults.{IsRuleOver}
use Rattle.rw_rule.specs.RuleLists.{RuleLists}
use Rattle.rw_rule.specs.RuleParts.{rule_of_parts}
use Rattle.rw_docrule.specs.declared.pieces.RuleRead as declared
use Rattle.rw_docrule.specs.Built.{is_built_rule}
use Rattle.rw_docrule.specs.Known.{IsRuleUnlessCyclic}
use Rattle.rw_docrule.specs.Reads.{rule_read}
use Rattle.rw_docrule.proofs.BuiltRules.{BuiltSo, one_more}
use Rattle.rw_docrule.proofs.build.build_rules.Goals as goal

pub loop-read-preserved : goal.loop-read-preserved
loop-read-preserved g c =
    let C = signature_of c.args.schema.now in
    let ops = length (entries c.args.ops.now) in
    let reads = map rule_read c.args.reads.items in
    let rules : List RuleLists = c.loop-read.rules.items in
    let rule : RuleLists = c.in_ok-rule.rule in
    let read : declared.RuleRead = c.in-Some.read in
    let before : List declared.RuleRead = into_iter_items c.loop-read.read-iterator in
    let left : List declared.RuleRead = into_iter_items c.next.new.self in
    let first : before ≡ read ∷ left = c.in-Some.ensures.steps.0 in
    let so : BuiltSo reads rules (rule_read read ∷ map rule_read left) = rw first at c.loop-read.invariant.gives in
    let long : length before ≡ length left + 1 = ap length first ∙ omega arith in
    let IsKnown : declared.RuleRead → Type 0 = λ read. IsRuleUnlessCyclic C ops (rule_of_parts read.parts) in
    record {
      gives = rw c.in_ok-push.ensures.items (one_more reads (map rule_read left) (rule_read read) rules rule so c.in_ok-rule.ensures.gives);
      known = All-rest IsKnown read left before first c.loop-read.invariant.known;
      over = rw c.in_ok-push.ensures.items (All-push (IsRuleOver C ops) rules rule c.loop-read.invariant.over c.in_ok-rule.ensures.over);
      built = rw c.in_ok-push.ensures.items (All-push (λ rule. is_built_rule rule ≡ true) rules rule c.loop-read.invariant.built c.in_ok-rule.ensures.built);
      long = rw (c.in_ok-push.ensures.items, length-append rules (rule ∷ [])) (omega arith);
    }
