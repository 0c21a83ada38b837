-- Each answer is determined.
use Rattle.rw_terms.specs.OpEntries.{entries}
use Rattle.rw_app.proofs.OneAnswer.{one_answer}
use Rattle.rw_app.proofs.laws.has_one_answer.Goals as goal

pub returns : goal.returns
returns g c request = one_answer (entries c.args.ops.now) request c.args.bytes.now
