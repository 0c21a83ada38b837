-- The names of an object go behind the others.
use Rattle.std.proofs.Common.{map, ap, ◌∙◌}
use Rattle.std.proofs.lemmas.List.{map_push}
use Rattle.rw_redex.proofs.Ranges.{map_more}
use Rattle.rw_dpo.specs.Contexts.{kept_names}
use Rattle.rw_dpo.proofs.kept.kept_lists.Goals as goal

pub loop-object-preserved : goal.loop-object-preserved
loop-object-preserved c =
    ap (map (λ list. list.items)) c.in_ok-push.ensures.items
    ∙ map_push (λ list. list.items) c.loop-object.lists.items c.in_ok-kept_names.field-0
    ∙ map_more (kept_names c.args.rule.now c.args.tuple.now) c.loop-object.object
    (map (λ list. list.items) c.loop-object.lists.items) c.in_ok-kept_names.field-0.items c.loop-object.invariant c.in_ok-kept_names.ensures
