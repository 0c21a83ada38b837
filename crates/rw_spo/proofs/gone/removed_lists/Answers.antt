-- The names of an object go behind the others.
use Rattle.std.proofs.Common.{None, map, ap, ◌∙◌}
use Rattle.std.proofs.lemmas.List.{map_push}
use Rattle.rw_redex.proofs.Ranges.{map_more}
use Rattle.rw_spo.specs.inner.Staying.{names_alone}
use Rattle.rw_spo.proofs.gone.removed_lists.Goals as goal

pub loop-object-preserved : goal.loop-object-preserved
loop-object-preserved g c =
    ap (map (λ list. list.items)) c.in_ok-push.ensures.items
    ∙ map_push (λ list. list.items) c.loop-object.lists.items c.in_ok-names.names
    ∙ map_more (names_alone c.args.removed.now (g.P.Probe.instance c.args.probe.now) None) c.loop-object.object
    (map (λ list. list.items) c.loop-object.lists.items) c.in_ok-names.names.items c.loop-object.invariant c.in_ok-names.ensures
