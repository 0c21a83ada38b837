-- Without a part nothing can fail.
use Rattle.rw_schema.specs.Presentation.{signature_of}
use Rattle.rw_doc.proofs.EmptyInstances.{nothing_fails}
use Rattle.rw_doc.proofs.instance.empty_instance.Goals as goal

pub of_instance-requires : goal.of_instance-requires
of_instance-requires c = rw c.in_ok-rows.ensures (nothing_fails (signature_of c.args.schema.now))
