-- One next name more.
use Rattle.std.proofs.Common.{◌∙◌, ap, sym, ◌++◌, [], ◌∷◌}
use Rattle.rw_columns.specs.Columned.{next_of}
use Rattle.rw_redex.proofs.Ranges.{map_more}
use Rattle.rw_app.proofs.pick.next_names.Goals as goal

pub loop-object-preserved : goal.loop-object-preserved
loop-object-preserved c =
    c.in_ok-push.ensures.items
    ∙ map_more (next_of c.args.columns.now) c.loop-object.object c.loop-object.next.items c.next_name.result c.loop-object.invariant c.next_name.ensures
