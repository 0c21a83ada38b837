-- So many numbers are there.
use Rattle.std.proofs.Common.{◌≡◌, ◌≤◌}
use Rattle.rw_columns.proofs.rewrite.add_targets.Given as goal

abbrev pub invariant-loop : goal.invariant-loop
invariant-loop l = record {
  values : l.column.values ≡ l.initial.column.values;
  wide : l.column.targets ≡ l.counter;
  target_room : l.initial.column.target_room ≤ l.column.target_room;
}
