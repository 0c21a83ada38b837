-- There are classes for the objects so far.
use Rattle.std.proofs.Common.{◌≡◌, length}
use Rattle.rw_classes.specs.ClassLists.{number_lists, first_lists, AreClassesBy}
use Rattle.rw_classes.proofs.joined.class_lists.Given as goal

abbrev pub invariant-loop-place : goal.invariant-loop-place
invariant-loop-place l = record {
  lists : length l.classes.items ≡ l.place;
  classes : AreClassesBy l.place l.left l.right l.f l.g (number_lists l.classes.items) (first_lists l.classes.items);
}
