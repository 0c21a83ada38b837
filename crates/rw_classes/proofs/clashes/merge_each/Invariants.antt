-- The cells of the attributes so far are merged.
use Rattle.std.proofs.Common.{◌≡◌, length, map}
use Rattle.rw_schema.specs.Presentation.{ends_of_attribute}
use Rattle.rw_classes.specs.Clashes.{MergesEach}
use Rattle.rw_classes.specs.ClassLists.{number_lists, first_lists}
use Rattle.rw_classes.proofs.clashes.merge_each.Given as goal

abbrev pub invariant-loop-place : goal.invariant-loop-place
invariant-loop-place l = record {
  each : length l.merged.items ≡ l.place;
  merged : MergesEach l.left l.right (number_lists l.classes) (first_lists l.classes) (map ends_of_attribute l.attributes) l.merged.items;
}
