-- The lists that are left are the first, and the cells of the other attributes are renewed.
use Rattle.std.proofs.Common.{◌≡◌, ℕ, ◌<◌, ◌≤◌, Some, length, map, slice_get, slice_index}
use Rattle.std.specs.Vec.{vec_capacity}
use Rattle.rw_schema.specs.declared.signature.AttrEnds.{AttrEnds}
use Rattle.rw_schema.specs.RowLists.{list_at}
use Rattle.rw_columns.specs.inner.Written.{IsRenewed, AreDone, IsFront}
use Rattle.rw_columns.proofs.cell_changes.renew_all.Given as goal

abbrev pub invariant-loop-list : goal.invariant-loop-list
invariant-loop-list l = record {
  front : IsFront l.cells.items l.initial.cells.items;
  count : length l.lists.items ≡ length l.initial.lists.items;
  done : AreDone (λ c old new. (attribute : AttrEnds) → slice_get l.ends c ≡ Some attribute
      → IsRenewed (list_at (map (λ list. list.items) l.removed) attribute.object.0) (list_at (map (λ list. list.items) l.added) attribute.object.0)
      (list_at (map (λ list. list.items) l.initial.cells.items) c) (slice_index l.next attribute.object.0) old new)
      (λ c. length l.cells.items ≤ c) (list_at (map (λ list. list.items) l.initial.lists.items)) (list_at (map (λ list. list.items) l.lists.items));
  rooms : (c : ℕ) → c < length l.cells.items
      → slice_index (map (λ list. vec_capacity list) l.lists.items) c ≡ slice_index (map (λ list. vec_capacity list) l.initial.lists.items) c;
}

abbrev pub decreases-loop-list : goal.decreases-loop-list
decreases-loop-list l = length l.cells.items
