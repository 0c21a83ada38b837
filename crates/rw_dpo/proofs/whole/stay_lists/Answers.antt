-- The list of an object goes behind the others.
use Rattle.std.proofs.Common.{map, ap, ◌∙◌}
use Rattle.std.proofs.lemmas.List.{map_push}
use Rattle.rw_redex.proofs.Ranges.{map_more}
use Rattle.rw_dpo.specs.Contexts.{all_stay}
use Rattle.rw_dpo.proofs.whole.stay_lists.Goals as goal

pub loop-object-preserved : goal.loop-object-preserved
loop-object-preserved c =
    ap (map (λ list. list.items)) c.in_ok-push.ensures.items
    ∙ map_push (λ list. list.items) c.loop-object.lists.items c.in_ok-all_stay.field-0
    ∙ map_more (all_stay c.args.pattern.now) c.loop-object.object
    (map (λ list. list.items) c.loop-object.lists.items) c.in_ok-all_stay.field-0.items c.loop-object.invariant c.in_ok-all_stay.ensures
