-- The counts so far are those of the classes so far.
use Rattle.std.proofs.Common.{◌≡◌, length, map, take}
use Rattle.rw_classes.specs.ClassLists.{first_lists}
use Rattle.rw_limits.proofs.class_names.class_counts.Given as goal

abbrev pub invariant-loop-each : goal.invariant-loop-each
invariant-loop-each l = l.counts.items ≡ map length (first_lists (take l.each-index l.classes))
