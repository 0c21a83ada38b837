-- So many cells are there, and what stood at names stands there.
use Rattle.std.proofs.Common.{◌≡◌, ℕ, ◌≤◌, length}
use Rattle.std.specs.Vec.{vec_capacity}
use Rattle.rw_columns.specs.inner.Written.{cell_at}
use Rattle.rw_columns.proofs.renew.lengthen.Given as goal

abbrev pub invariant-loop : goal.invariant-loop
invariant-loop l = record {
  long : length l.list.items ≡ l.counter;
  room : vec_capacity l.initial.list ≤ vec_capacity l.list;
  same : (x : ℕ) → cell_at l.list.items x ≡ cell_at l.initial.list.items x;
}
