-- The cells of one attribute more.
use Rattle.std.proofs.Common.{◌≡◌, ◌∙◌, ℕ, [], ◌∷◌, ◌++◌, map, ap, sym, arith}
use Rattle.std.proofs.lemmas.Grind.{common_steps}
use Rattle.std.proofs.lemmas.List.{map_push}
use Rattle.rw_schema.proofs.Lists.{map_in_more}
use Rattle.rw_limits.specs.inner.ClassTables.{merged_cells}
use Rattle.rw_classes.specs.Clashes.{both_cells}
use Rattle.rw_classes.specs.declared.merge.Merged.{Merged}
use Rattle.rw_limits.proofs.class_cells.class_cells.Goals as goal

pub loop-place-preserved : goal.loop-place-preserved
loop-place-preserved c =
    let place = c.loop-place.place in
    let each = c.index-merged-place.result in
    let cells_at = λ (k : ℕ) (each : Merged). merged_cells (both_cells c.args.left.now c.args.right.now k) each in
    let cells = c.in_ok-cells_of.field-0 in
    let pushed : c.push.new.self.items ≡ c.loop-place.cells.items ++ cells ∷ [] = grind (arith, common_steps) in
    let cells_are : cells.items ≡ cells_at place each = rw (← c.cells.ensures, ← c.cells-in-loop-place.ensures) c.in_ok-cells_of.ensures in
    ap (map (λ list. list.items)) pushed ∙ map_push (λ list. list.items) c.loop-place.cells.items cells
    ∙ rw (c.loop-place.invariant, cells_are) (sym (map_in_more cells_at c.args.merged.now place each c.loop-place-test.true c.index-merged-place.is))
