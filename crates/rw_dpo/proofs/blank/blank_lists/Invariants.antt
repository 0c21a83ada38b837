-- The names of the attributes so far.
use Rattle.std.proofs.Common.{◌≡◌, map, take}
use Rattle.rw_schema.specs.First.{map_in}
use Rattle.rw_schema.specs.Presentation.{ends_of_attribute}
use Rattle.rw_dpo.specs.Contexts.{blank_names}
use Rattle.rw_dpo.proofs.blank.blank_lists.Given as goal

abbrev pub invariant-loop-number : goal.invariant-loop-number
invariant-loop-number g l =
    map (λ list. list.items) l.lists.items ≡ map_in (blank_names l.rule l.tuple (g.P.Probe.instance l.probe)) 0 (take l.number (map ends_of_attribute l.schema.attributes))
