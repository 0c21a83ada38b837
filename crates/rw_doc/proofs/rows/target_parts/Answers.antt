-- The target is that of the schema's arrow.
use Rattle.rw_doc.proofs.SchemaEnds.{arrow_target}
use Rattle.rw_doc.proofs.rows.target_parts.Goals as goal

pub returns : goal.returns
returns c = rw (arrow_target c.args.schema.now c.args.arrow.0 c.arrow.result.now c.arrow.ensures.entry)
