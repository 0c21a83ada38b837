-- All lists are short exactly where those that are left are.
use Rattle.std.proofs.Common.{◌≡◌, drop, map}
use Rattle.std.specs.List.{list_all}
use Rattle.serde_json.specs.View.{view}
use Rattle.rw_docspan.specs.Instances as spec
use Rattle.rw_docspan.proofs.limits.are_lists_short.Given as goal

abbrev pub invariant-loop-list : goal.invariant-loop-list
invariant-loop-list l =
    list_all spec.are_short (map (λ list. map view list.now) l.lists)
    ≡ list_all spec.are_short (map (λ list. map view list.now) (drop l.list-index l.lists))
