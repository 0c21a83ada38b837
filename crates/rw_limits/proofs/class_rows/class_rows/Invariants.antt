-- The rows so far are those of the arrows so far.
use Rattle.std.proofs.Common.{◌≡◌, map, take}
use Rattle.rw_schema.specs.First.{map_in}
use Rattle.rw_schema.specs.Presentation.{ends_of_arrow}
use Rattle.rw_limits.specs.inner.Spans.{class_row_at}
use Rattle.rw_classes.specs.ClassLists.{number_lists, first_lists}
use Rattle.rw_limits.proofs.class_rows.class_rows.Given as goal

abbrev pub invariant-loop-place : goal.invariant-loop-place
invariant-loop-place l =
    map (λ row. row.items) l.rows.items
    ≡ map_in (class_row_at l.left l.right (number_lists l.classes) (first_lists l.classes)) 0 (take l.place (map ends_of_arrow l.arrows))
