-- The lists so far are those at the start and those of the rules passed.
use Rattle.std.proofs.Common.{◌≡◌, ◌++◌, map, take}
use Rattle.rw_schema.specs.Presentation.{signature_of}
use Rattle.rw_rule.specs.RuleLists.{RuleLists}
use Rattle.rw_lists.specs.Fresh.{fresh_list}
use Rattle.rw_app.proofs.kept.push_rules.Given as goal

abbrev pub invariant-loop-rule : goal.invariant-loop-rule
invariant-loop-rule g l =
    map (λ list. list.items) l.lists.items ≡ map (λ list. list.items) l.initial.lists.items
    ++ map (λ (rule : RuleLists). fresh_list (signature_of l.schema) (g.P.Probe.instance l.probe) rule.goal) (take l.rule-index l.rules)
