-- The cells are kept, and the lists so far have room.
use Rattle.std.proofs.Common.{◌≡◌, ℕ, ◌<◌, ◌≤◌, Some, map, slice_get, slice_index}
use Rattle.std.specs.Vec.{vec_capacity}
use Rattle.rw_schema.specs.declared.signature.AttrEnds.{AttrEnds}
use Rattle.rw_columns.proofs.room.cells_room.Given as goal

abbrev pub invariant-loop-place : goal.invariant-loop-place
invariant-loop-place l = record {
  kept : map (λ list. list.items) l.lists.items ≡ map (λ list. list.items) l.initial.lists.items;
  room : (c : ℕ) → c < l.place → (attribute : AttrEnds) → slice_get l.ends c ≡ Some attribute
      → slice_index l.next attribute.object.0 ≤ slice_index (map (λ list. vec_capacity list) l.lists.items) c;
}
