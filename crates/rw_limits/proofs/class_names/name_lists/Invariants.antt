-- The names so far are those of the classes so far.
use Rattle.std.proofs.Common.{◌≡◌, map, take}
use Rattle.rw_limits.specs.inner.Spans.{class_names}
use Rattle.rw_classes.specs.ClassLists.{first_lists}
use Rattle.rw_limits.proofs.class_names.name_lists.Given as goal

abbrev pub invariant-loop-each : goal.invariant-loop-each
invariant-loop-each l = map (λ list. list.items) l.names.items ≡ class_names (first_lists (take l.each-index l.classes))
