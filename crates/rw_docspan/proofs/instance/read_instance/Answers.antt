-- What is read is over the schema, and of the size.
use Rattle.serde_json.specs.View.{view}
use Rattle.rw_schema.specs.Presentation.{signature_of}
use Rattle.rw_docspan.proofs.SoundForms.{answer_over, answer_sized}
use Rattle.rw_docspan.proofs.instance.read_instance.Goals as goal

pub returns-clause-over : goal.returns-clause-over
returns-clause-over c = answer_over (signature_of c.args.schema.now) c.args.piece (view c.args.value.now) c.instance_in.result c.instance_in.ensures

pub returns-clause-size : goal.returns-clause-size
returns-clause-size c = answer_sized (signature_of c.args.schema.now) c.args.piece (view c.args.value.now) c.instance_in.result c.instance_in.ensures
