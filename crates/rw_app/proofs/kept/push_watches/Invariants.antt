-- The lists so far are those at the start and those of the watches passed.
use Rattle.std.proofs.Common.{◌≡◌, ◌++◌, map, take}
use Rattle.rw_schema.specs.Presentation.{signature_of}
use Rattle.rw_rule.specs.RuleParts.{goal_of_parts}
use Rattle.rw_lists.specs.Fresh.{fresh_list}
use Rattle.rw_app.proofs.kept.push_watches.Given as goal

abbrev pub invariant-loop-watch : goal.invariant-loop-watch
invariant-loop-watch g l =
    map (λ list. list.items) l.lists.items ≡ map (λ list. list.items) l.initial.lists.items
    ++ map (λ watch. fresh_list (signature_of l.schema) (g.P.Probe.instance l.probe) (goal_of_parts watch.goal)) (take l.watch-index l.watches)
