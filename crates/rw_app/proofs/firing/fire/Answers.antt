use Rattle.std.proofs.Common.{◌≡◌, List, All, ap, get_or, length, subst, sym, ◌∙◌}
use Rattle.std.proofs.lemmas.List.Elements.{All-head}
use Rattle.rw_schema.specs.Presentation.{signature_of}
use Rattle.rw_terms.specs.OpEntries.{entries}
use Rattle.rw_rule.specs.RuleFaults.{IsRuleOver}
use Rattle.rw_rule.specs.RuleLists.{RuleLists}
use Rattle.rw_rule.specs.PlainRules.{has_no_conditions, is_dpo}
use Rattle.rw_app.proofs.Listable.{IsBuilt, built_rule}
use Rattle.rw_app.proofs.firing.fire.Goals as goal

pub pick_first-requires-clause-rule : goal.pick_first-requires-clause-rule
pick_first-requires-clause-rule g c =
    let C = signature_of c.args.document.now.schema in
    let ops = length (entries c.args.ops.now) in
    All-head (IsRuleOver C ops) c.args.rule.now c.requires.rule.0 (subst (λ (rules : List RuleLists). All (IsRuleOver C ops) rules) c.requires.rule.1 c.requires.sound.rules)

pub pick_first-requires-clause-kind : goal.pick_first-requires-clause-kind
pick_first-requires-clause-kind g c =
    (built_rule c.args.rule.now
    (All-head IsBuilt c.args.rule.now c.requires.rule.0 (subst (λ (rules : List RuleLists). All IsBuilt rules) c.requires.rule.1 c.requires.sound.built))).0
