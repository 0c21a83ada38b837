-- The object is that of the schema's attribute.
use Rattle.rw_doc.proofs.SchemaEnds.{attribute_holder}
use Rattle.rw_doc.proofs.cells.holder_parts.Goals as goal

pub returns : goal.returns
returns c = rw (attribute_holder c.args.schema.now c.args.attribute.0 c.attr.result.now c.attr.ensures.entry)
