-- The instance that is written is over the schema.
use Rattle.std.proofs.Common.{Some}
use Rattle.serde_json.specs.View.{view}
use Rattle.rw_schema.specs.Presentation.{signature_of}
use Rattle.rw_document.proofs.SoundTable.{result_over}
use Rattle.rw_document.proofs.read.instance_or_none.Goals as goal

pub returns-in-Some-clause-over : goal.returns-in-Some-clause-over
returns-in-Some-clause-over c = result_over (signature_of c.args.schema.now) c.args.blanks (Some (view c.in-Some.value.now)) c.read_instance.result c.read_instance.ensures
