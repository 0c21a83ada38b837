-- The lists so far are those of the objects so far.
use Rattle.std.proofs.Common.{◌≡◌, map, take}
use Rattle.rw_limits.specs.inner.Spans.{left_classes}
use Rattle.rw_classes.specs.ClassLists.{number_lists}
use Rattle.rw_limits.proofs.class_names.left_lists.Given as goal

abbrev pub invariant-loop-place : goal.invariant-loop-place
invariant-loop-place l = map (λ list. list.items) l.lists.items ≡ left_classes l.left (take l.place (number_lists l.classes))
