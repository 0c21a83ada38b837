-- So many places are there, and what stood at places stands there.
use Rattle.std.proofs.Common.{◌≡◌, ℕ, ◌≤◌, length}
use Rattle.rw_columns.specs.inner.Written.{number_at}
use Rattle.rw_columns.proofs.rewrite.add_places.Given as goal

abbrev pub invariant-loop : goal.invariant-loop
invariant-loop l = record {
  long : length l.column.values ≡ l.counter;
  wide : l.column.targets ≡ l.initial.column.targets;
  room : l.initial.column.room ≤ l.column.room;
  target_room : l.initial.column.target_room ≤ l.column.target_room;
  same : (x : ℕ) → number_at l.column x ≡ number_at l.initial.column x;
}
