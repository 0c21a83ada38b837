-- The rule and its name are put behind those before it.
use Rattle.std.proofs.Common.{◌≡◌, ◌∙◌, Ok, List, [], ◌∷◌, ◌++◌, length, map, length-append}
use Rattle.std.proofs.lemmas.List.{length-map, map-append}
use Rattle.std.proofs.lemmas.List.Elements.{All-push}
use Rattle.serde_json.specs.View.{view}
use Rattle.rw_schema.specs.Presentation.{signature_of}
use Rattle.rw_terms.specs.OpEntries.{entries}
use Rattle.rw_rule.specs.RuleParts.{rule_of_parts}
use Rattle.rw_doc.proofs.Readings.{read_more_behind}
use Rattle.rw_docrule.specs.declared.pieces.RuleRead as declared
use Rattle.rw_docrule.specs.Known.{IsRuleUnlessCyclic}
use Rattle.rw_docrule.specs.Reads.{rule_read}
use Rattle.rw_docrule.specs.Rules as spec
use Rattle.rw_docrule.proofs.rules.rules_of.Goals as goal

pub loop-place-preserved : goal.loop-place-preserved
loop-place-preserved g c =
    let schema = c.args.schema.now in
    let ops = entries c.args.ops.now in
    let rules : List declared.RuleRead = c.loop-place.rules.items in
    let rule : declared.RuleRead = c.in_ok-rule.rule in
    let before : List spec.RuleRead = map rule_read rules in
    let long : length before ≡ c.loop-place.place = length-map rules rule_read ∙ c.loop-place.invariant.long in
    let mapped : map rule_read c.push-in-loop-place.new.self.items ≡ before ++ rule_read rule ∷ [] =
    rw c.in_ok-push-2.ensures.items (map-append rule_read rules (rule ∷ [])) in
    let read : spec.read_rule schema ops before (view c.index-items-place.result) ≡ Ok (rule_read rule) =
    rw (c.loop-place.invariant.names, ← long) at c.in_ok-rule.ensures.gives in
    let IsKnown : declared.RuleRead → Type 0 = λ read. IsRuleUnlessCyclic (signature_of schema) (length ops) (rule_of_parts read.parts) in
    record {
      gives = rw mapped (read_more_behind (spec.read_rule schema ops) c.args.items.now c.loop-place.place before c.index-items-place.result (rule_read rule)
          c.loop-place.invariant.gives c.loop-place-test.true c.index-items-place.is read);
      known = rw c.in_ok-push-2.ensures.items (All-push IsKnown rules rule c.loop-place.invariant.known c.in_ok-rule.ensures.known);
      names = rw (mapped, c.in_ok-push.ensures.ok, c.loop-place.invariant.names, c.as_str.ensures, map-append (λ (read : spec.RuleRead). read.rule.name) before (rule_read rule ∷ []));
      long = rw (c.in_ok-push-2.ensures.items, length-append rules (rule ∷ []), c.loop-place.invariant.long);
    }
