-- The names of one object more.
use Rattle.std.proofs.Common.{[], map}
use Rattle.rw_columns.proofs.Filled.{all_more}
use Rattle.rw_glue.specs.inner.Changed.{AreRemoved}
use Rattle.rw_glue.proofs.removed.removed_lists.Goals as goal

pub loop-place-preserved : goal.loop-place-preserved
loop-place-preserved c =
    all_more [] (AreRemoved (map (λ list. list.items) c.args.gone.now) (map (λ list. list.items) c.args.moved.now)) c.loop-place.place
    (map (λ list. list.items) c.loop-place.lists.items) (map (λ list. list.items) c.add_list.new.lists.items)
    c.in_ok-removed_names.field-0.items c.in_ok-add_list.ensures c.loop-place.invariant (rw (c.list_of.ensures, c.list_of-in-loop-place.ensures) at c.in_ok-removed_names.ensures)
