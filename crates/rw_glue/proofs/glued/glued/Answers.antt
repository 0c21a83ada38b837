-- The images on both sides can be joined.
use Rattle.rw_schema.specs.Presentation.{signature_of}
use Rattle.rw_glue.proofs.Ready.{joinable}
use Rattle.rw_glue.proofs.glued.glued.Goals as goal

pub class_lists-requires-clause-joinable : goal.class_lists-requires-clause-joinable
class_lists-requires-clause-joinable g c = rw (c.objects.ensures.value, c.r.ensures) (joinable (signature_of c.args.schema.now) c.args.sides.now.rule.now c.args.sides.now.tuple.now (g.P.Probe.instance c.args.probe.now) c.args.sides.now.context.now c.args.sides.now.values.now c.args.sides.now.images c.args.sides.now.left c.args.sides.now.right c.requires.site c.requires.sides)
