-- The names of one object more.
use Rattle.std.proofs.Common.{[], map}
use Rattle.rw_columns.proofs.Filled.{all_more}
use Rattle.rw_glue.specs.inner.Sides.{IsTouched}
use Rattle.rw_glue.proofs.kept.touched_lists.Goals as goal

pub loop-object-preserved : goal.loop-object-preserved
loop-object-preserved c =
    all_more [] (IsTouched c.args.images.now) c.loop-object.object (map (λ list. list.items) c.loop-object.lists.items) (map (λ list. list.items) c.add_list.new.lists.items)
    c.in_ok-in_order.field-0.items c.in_ok-add_list.ensures c.loop-object.invariant (rw c.images.ensures at c.in_ok-in_order.ensures)
