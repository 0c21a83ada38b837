-- The columns are kept, and those so far have room.
use Rattle.std.proofs.Common.{ℕ, ◌<◌, slice_index}
use Rattle.rw_columns.specs.Columned.{column_at}
use Rattle.rw_columns.specs.inner.Room.{AreKept, IsRoomy}
use Rattle.rw_columns.proofs.room.names_room.Given as goal

abbrev pub invariant-loop-place : goal.invariant-loop-place
invariant-loop-place l = record {
  kept : AreKept l.initial.columns.items l.columns.items;
  room : (object : ℕ) → object < l.place → IsRoomy (slice_index l.next object) 0 (column_at l.columns.items object);
}
