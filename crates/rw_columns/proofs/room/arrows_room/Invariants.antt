-- The columns are kept, and those so far have room.
use Rattle.std.proofs.Common.{◌≡◌, ℕ, ◌<◌, Some, slice_get, slice_index}
use Rattle.rw_schema.specs.declared.signature.ArrowEnds.{ArrowEnds}
use Rattle.rw_columns.specs.Columned.{column_at}
use Rattle.rw_columns.specs.inner.Room.{AreKept, IsRoomy}
use Rattle.rw_columns.proofs.room.arrows_room.Given as goal

abbrev pub invariant-loop-place : goal.invariant-loop-place
invariant-loop-place l = record {
  kept : AreKept l.initial.columns.items l.columns.items;
  room : (a : ℕ) → a < l.place → (arrow : ArrowEnds) → slice_get l.ends a ≡ Some arrow
      → IsRoomy (slice_index l.next arrow.source.0) (slice_index l.next arrow.target.0) (column_at l.columns.items a);
}
