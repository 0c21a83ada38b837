-- The marks of an object go behind the others.
use Rattle.std.proofs.Common.{None, map, ap, ◌∙◌}
use Rattle.std.proofs.lemmas.List.{map_push}
use Rattle.rw_redex.proofs.Ranges.{map_more}
use Rattle.rw_spo.specs.inner.Staying.{marks_staying}
use Rattle.rw_spo.proofs.staying.right_lists.Goals as goal

pub loop-object-preserved : goal.loop-object-preserved
loop-object-preserved c =
    ap (map (λ list. list.items)) c.in_ok-push.ensures.items
    ∙ map_push (λ list. list.items) c.loop-object.lists.items c.in_ok-marks_staying.field-0
    ∙ map_more (marks_staying c.args.removed.now c.args.right.now None) c.loop-object.object
    (map (λ list. list.items) c.loop-object.lists.items) c.in_ok-marks_staying.field-0.items c.loop-object.invariant c.in_ok-marks_staying.ensures
