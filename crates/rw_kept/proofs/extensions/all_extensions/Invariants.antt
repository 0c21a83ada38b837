-- The extensions along the conditions so far.
use Rattle.std.proofs.Common.{◌≡◌, map, take}
use Rattle.rw_schema.specs.Presentation.{signature_of}
use Rattle.rw_rule.specs.RuleParts.{condition_of_parts, goal_of_parts}
use Rattle.rw_kept.specs.KeptLists.{extensions_of}
use Rattle.rw_kept.proofs.extensions.all_extensions.Given as goal

abbrev pub invariant-loop-condition : goal.invariant-loop-condition
invariant-loop-condition g l =
    map (λ groups. map (λ group. group.items) groups.items) l.all.items
    ≡ map (extensions_of (signature_of l.schema) (g.P.Probe.instance l.probe) (goal_of_parts l.goal) l.matches)
    (map condition_of_parts (take l.condition-index l.goal.conditions.items))
